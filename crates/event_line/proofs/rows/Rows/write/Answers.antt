use Rattle.std.proofs.Common.{◌<◌, [], List, ℕ, length, take, get_or, sym, ap, subst, ◌∙◌, arith}
use Rattle.std.proofs.lemmas.List.{get_or_read, get_or-take, get_or-set_same, get_or-set_other, length-map}
use Rattle.event_line.specs.Lanes.{IsVector}
use Rattle.event_line.proofs.TableLaws.{lane_is, set_row, set_others}
use Rattle.event_line.proofs.rows.Rows.write.Goals as goal

pub returns-clause-here : goal.returns-clause-here
returns-clause-here c =
    let vectors = c.self.inside.vectors.items in
    let width = c.self.inside.width in
    let narrow = c.self.invariant.narrow in
    let row = c.with_lane-row.result in
    let old = c.index.result.now in
    let at = c.args.resource in
    let node = rw (← c.self.view_is) at c.requires.node in
    let resource = rw (← c.self.view_is) at c.requires.resource in
    let within : c.args.node < length vectors = omega (arith, length-map vectors (take width)) in
    let vector = subst IsVector (sym c.index.ensures)
    (c.self.invariant.whole c.args.node old within) in
    let whole = vector.whole in
    ap (λ (r : List ℕ). get_or r at 0) (set_row width c.args.node vectors row within)
    ∙ (get_or-take width row at 0 resource
    ∙ (ap (λ (r : List ℕ). get_or r at 0) c.with_lane-row.ensures.set
    ∙ get_or-set_same old at c.args.left 0 (omega arith)))

pub returns-clause-beside : goal.returns-clause-beside
returns-clause-beside c =
    let vectors = c.self.inside.vectors.items in
    let width = c.self.inside.width in
    let row = c.with_lane-row.result in
    let old = c.index.result.now in
    let node = rw (← c.self.view_is) at c.requires.node in
    let within : c.args.node < length vectors = omega (arith, length-map vectors (take width)) in
    let read = get_or_read vectors c.args.node old within c.index.ensures [] in
    rw (← c.self.view_is) (λ j h ne.
    ap (λ (r : List ℕ). get_or r j 0) (set_row width c.args.node vectors row within)
    ∙ (get_or-take width row j 0 h
    ∙ (ap (λ (r : List ℕ). get_or r j 0) c.with_lane-row.ensures.set
    ∙ (get_or-set_other old c.args.resource j c.args.left 0 ne
    ∙ (ap (λ (r : List ℕ). get_or r j 0) read
    ∙ sym (lane_is width c.args.node j vectors h))))))

pub returns-clause-others : goal.returns-clause-others
returns-clause-others c =
    rw (← c.self.view_is) (λ x ne. set_others c.self.inside.width c.args.node x
    c.self.inside.vectors.items c.with_lane-row.result ne)
