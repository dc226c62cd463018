use Rattle.std.proofs.Common.{inl, Ok, refl, ap, ◌∙◌}
use Rattle.std.proofs.lemmas.Result.{err_from_is_err_and}
use Rattle.psplib_read.specs.Left.{Left, whole}
use Rattle.psplib_read.proofs.SectionLaws.{HasSections, capacities_refused, end_refused, text_read}
use Rattle.psplib_read.proofs.read.read_parts.Goals as goal

pub returns-in_err-capacities : goal.returns-in_err-capacities
returns-in_err-capacities c =
    let passed = err_from_is_err_and c.from_residual-in_err-capacities.result
    c.from_residual-in_err-capacities.ensures.1 in
    let requests = c.in_ok-requests.ensures in
    let has : HasSections (whole c.args.bytes.now) c.in_ok-head.head _ requests.0.0
    c.section_due-2.new.cursor = record {
      begun = c.read_head.new.cursor;
      listed = c.read_all_successors.new.cursor;
      turned = c.section_due.new.cursor;
      worked = c.read_requests.new.cursor;
      head_is = rw c.new-cursor.ensures at c.in_ok-head.ensures;
      successors_are = rw c.skip_title.ensures at c.in_ok-successors.ensures;
      requests_begin = c.in_ok-section_due.ensures;
      requests_are = requests.1 ∙ ap (λ (left : Left). Ok (requests.0.0, left)) requests.2.1;
      capacities_begin = c.in_ok-section_due-2.ensures;
    } in
    rw (passed.1, passed.2) (capacities_refused _ _ _ _ _ c.in_err-capacities.field-0.0 has
    c.in_err-capacities.ensures)

pub returns-in_err-end_due : goal.returns-in_err-end_due
returns-in_err-end_due c =
    let passed = err_from_is_err_and c.from_residual-in_err-end_due.result
    c.from_residual-in_err-end_due.ensures.1 in
    let requests = c.in_ok-requests.ensures in
    let has : HasSections (whole c.args.bytes.now) c.in_ok-head.head _ requests.0.0
    c.section_due-2.new.cursor = record {
      begun = c.read_head.new.cursor;
      listed = c.read_all_successors.new.cursor;
      turned = c.section_due.new.cursor;
      worked = c.read_requests.new.cursor;
      head_is = rw c.new-cursor.ensures at c.in_ok-head.ensures;
      successors_are = rw c.skip_title.ensures at c.in_ok-successors.ensures;
      requests_begin = c.in_ok-section_due.ensures;
      requests_are = requests.1 ∙ ap (λ (left : Left). Ok (requests.0.0, left)) requests.2.1;
      capacities_begin = c.in_ok-section_due-2.ensures;
    } in
    rw (passed.1, passed.2)
    (inl (end_refused _ _ _ _ _ _ _ c.in_err-end_due.field-0.0 has c.in_ok-capacities.ensures
    c.in_err-end_due.ensures))

pub returns : goal.returns
returns c =
    let requests = c.in_ok-requests.ensures in
    let has : HasSections (whole c.args.bytes.now) c.in_ok-head.head _ requests.0.0
    c.section_due-2.new.cursor = record {
      begun = c.read_head.new.cursor;
      listed = c.read_all_successors.new.cursor;
      turned = c.section_due.new.cursor;
      worked = c.read_requests.new.cursor;
      head_is = rw c.new-cursor.ensures at c.in_ok-head.ensures;
      successors_are = rw c.skip_title.ensures at c.in_ok-successors.ensures;
      requests_begin = c.in_ok-section_due.ensures;
      requests_are = requests.1 ∙ ap (λ (left : Left). Ok (requests.0.0, left)) requests.2.1;
      capacities_begin = c.in_ok-section_due-2.ensures;
    } in (
      _,
      text_read _ _ _ _ _ _ _ has c.in_ok-capacities.ensures c.in_ok-end_due.ensures,
      record {
        capacities = refl;
        durations = requests.2.0.durations;
        demands =
            requests.2.0.demands;
        successors = refl;
      },
    )
