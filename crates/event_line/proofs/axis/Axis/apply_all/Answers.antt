use Rattle.std.proofs.Common.{◌+◌, ◌<◌, length, get_or, sym, ap, ◌∙◌, subst, refl, arith}
use Rattle.rc_instance.specs.Project.{resource_count}
use Rattle.event_line.specs.Chain.{Nodes}
use Rattle.event_line.proofs.CalendarLaws.{changed, capacity_after, capacity_after_more, capacity_after_all, change_resource, change_capacity}
use Rattle.event_line.proofs.axis.Axis.apply_all.Goals as goal

pub loop-index-init : goal.loop-index-init
unfolding capacity_after
loop-index-init c = (refl, refl, c.requires.filled.each)

pub apply-requires-clause-capacity : goal.apply-requires-clause-capacity
apply-requires-clause-capacity c =
    let project = c.args.instance.now in
    change_capacity (resource_count project) c.loop-index.index project.changes c.change.result
    c.requires.limits.calendar c.change.ensures

pub apply-requires-clause-resource : goal.apply-requires-clause-resource
apply-requires-clause-resource c =
    let project = c.args.instance.now in
    let calendar = c.requires.limits.calendar in
    let within = change_resource (resource_count project) c.loop-index.index project.changes
    c.change.result calendar c.change.ensures in
    (within.0, omega (arith, within.1, c.loop-index.invariant.1, c.requires.width))

pub loop-index-preserved : goal.loop-index-preserved
loop-index-preserved c =
    let l = c.loop-index in
    let project = c.args.instance.now in
    let same = c.apply.ensures.chain in
    let width = c.apply.ensures.width ∙ (l.invariant.1 ∙ c.requires.width) in
    let written = rw (c.apply.ensures.width, l.invariant.1, c.requires.width, c.apply.ensures.chain)
    at c.apply.ensures.written in (
      same ∙ l.invariant.0,
      c.apply.ensures.width ∙ l.invariant.1,
      λ i j h hj.
          let p = get_or l.self.chain.periods i 0 in
          let inside : i < length l.self.chain.periods =
          subst (λ (n : Nodes). i < length n.periods) same h in
          rw same (written i j inside hj
          ∙ (ap (λ n. changed (j + 1) p n c.change.result) (l.invariant.2 i j inside hj)
          ∙ sym (capacity_after_more project (j + 1) p l.index c.change.result c.change.ensures))),
    )

pub returns-clause-capacities : goal.returns-clause-capacities
returns-clause-capacities c =
    let l = c.loop-index in
    record {
      each = λ i j h hj. l.invariant.2 i j h hj
          ∙ capacity_after_all c.args.instance.now (j + 1) (get_or l.self.chain.periods i 0) l.index
          (omega (arith, c.change_count-index-end.ensures));
    }
