use Rattle.std.proofs.Common.{ap, subst, sym, ◌∙◌, length, arith}
use Rattle.event_line.specs.Chain.{Nodes}
use Rattle.event_line.specs.Shown.{HasChanges}
use Rattle.event_line.proofs.axis.Axis.of.Goals as goal

pub overflow_add-change_count : goal.overflow_add-change_count
overflow_add-change_count c =
    let few = c.resources-width.ensures.limits.calendar.count in
    omega arith

pub invariant_of-axis : goal.invariant_of-axis
invariant_of-axis c =
    let axis = c.in_ok-axis.axis in
    let few = c.mark_changes.ensures.few in
    let room = ap (λ (n : Nodes). n.room) c.in_ok-axis.ensures.0 in
    let count = c.change_count.ensures in
    let same = c.mark_changes.ensures.room in
    let start = ap (λ (n : Nodes). length n.periods) c.in_ok-axis.ensures.0 in
    record {
      shape = axis.shape ∙ sym same;
      nodes = omega arith;
    }

pub returns-clause-changes : goal.returns-clause-changes
returns-clause-changes c =
    subst (λ (n : Nodes). HasChanges c.args.instance.now n.periods (length n.periods))
    (sym (c.apply_all.ensures.chain ∙ c.fill.ensures.chain)) c.mark_changes.ensures.changes
