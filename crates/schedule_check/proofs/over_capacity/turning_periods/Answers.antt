use Rattle.std.proofs.Common.{◌∙◌, ◌∷◌, ◌++◌, ap, eqb, subst, sym, map, refl, arith, append_assoc}
use Rattle.std.proofs.lemmas.List.{take_all}
use Rattle.std.proofs.lemmas.List.Filters.{dedup_is}
use Rattle.rc_instance.specs.declared.change.Change.{Change}
use Rattle.schedule_check.specs.Turning.{AreTurning}
use Rattle.schedule_check.proofs.StepLaws.{starts_next, periods_next}
use Rattle.schedule_check.proofs.TurningLaws.{turning_sorted}
use Rattle.schedule_check.proofs.over_capacity.turning_periods.Goals as goal

pub loop-activity-preserved : goal.loop-activity-preserved
loop-activity-preserved c =
    let starts = c.args.schedule.now in
    let a = c.loop-activity.activity in
    let next = starts_next starts a (omega arith)
    (omega (arith, c.requires, c.count-activity-end.ensures.value)) in
    rw (c.in_ok-push-2.ensures.items, c.loop-activity.invariant, next, c.start.ensures) refl

pub loop-index-preserved : goal.loop-index-preserved
loop-index-preserved c =
    let changes = c.args.instance.now.changes in
    let i = c.loop-index.index in
    let next = periods_next changes i c.change.result
    (omega (arith, c.change_count-index-end.ensures)) c.change.ensures in
    rw (c.in_ok-push-3.ensures.items, c.loop-index.invariant, next)
    (append_assoc (0 ∷ c.args.schedule.now) _ _)

pub returns : goal.returns
returns c =
    let project = c.args.instance.now in
    let sorted = c.sort_unstable.new.self.items in
    let all = take_all c.loop-index.index project.changes
    (omega (arith, c.change_count-index-end.ensures)) in
    let is = c.loop-index.invariant
    ∙ ap (λ changes. (0 ∷ c.args.schedule.now) ++ map (λ (change : Change). change.period) changes)
    all in
    subst (AreTurning project c.args.schedule.now)
    (sym (dedup_is eqb sorted c.dedup.new.self.items c.dedup.ensures.filtered))
    (turning_sorted project c.args.schedule.now c.loop-index.periods.items sorted is
    c.sort_unstable.ensures.permutation c.sort_unstable.ensures.sorted)
