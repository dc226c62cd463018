use Rattle.std.proofs.Common.{◌≡◌, ◌∙◌, Err, inl, sym}
use Rattle.csv.specs.Records.{fields_of}
use Rattle.schedule_check.specs.declared.plan_fault.PlanKind.TheVariants.{NotHeader}
use Rattle.schedule_check.specs.Reading.{plan_of}
use Rattle.schedule_check.specs.Records.{records_left}
use Rattle.schedule_check.proofs.PlanLaws.{header_read, header_wrong, header_absent}
use Rattle.schedule_check.proofs.reading.read_header.Goals as goal
use Rattle.schedule_check.proofs.reading.read_header.Goals.{else-branch-via-then-branch+else-is_header, else-branch-via-else-branch}

pub returns-then-is_header-clause-header : goal.returns-then-is_header-clause-header
returns-then-is_header-clause-header c =
    header_read (records_left c.args.reader.now) (records_left c.read_next.new.reader)
    (fields_of c.read_next.new.fields) (rw c.if-branch.true at c.in_ok-read_next.ensures.taken)
    (sym c.is_header.ensures ∙ c.if-is_header.true)

pub returns-else-branch-clause-refused : goal.returns-else-branch-clause-refused
returns-else-branch-clause-refused c =
    let before = records_left c.args.reader.now in
    let after = records_left c.read_next.new.reader in
    let fields = fields_of c.read_next.new.fields in
    inl (elim c.else-branch.branch as (λ _. plan_of before ≡ Err (record { kind = NotHeader; row = 1 })) [
      | else-branch-via-then-branch+else-is_header w ↦
          header_wrong before after fields (rw w.if-branch.true at c.in_ok-read_next.ensures.taken)
          (sym w.is_header.ensures ∙ w.if-is_header.false)
      | else-branch-via-else-branch w ↦
          header_absent before after fields (rw w.if-branch.false at
          c.in_ok-read_next.ensures.taken)
    ])
