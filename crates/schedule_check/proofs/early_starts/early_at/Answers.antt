use Rattle.std.proofs.Common.{◌≡◌, ◌∙◌, true, sym, refl, arith}
use Rattle.rc_instance.specs.Project.{activity_count}
use Rattle.rc_instance.specs.Schedule.{bookings_of}
use Rattle.rc_instance.proofs.MisfitLaws.{first_of-is, first_of-none}
use Rattle.schedule_check.specs.declared.violation.Violation.TheVariants.{BeforePredecessor}
use Rattle.schedule_check.specs.Violation.{early_after, early_at, is_early}
use Rattle.schedule_check.proofs.early_starts.early_at.Goals as goal

pub returns-then-is_early : goal.returns-then-is_early
unfolding early_at
returns-then-is_early c =
    let project = c.args.instance.now in
    let bookings = bookings_of c.args.schedule.now in
    let b = c.args.activity in
    let a = c.loop-predecessor.predecessor in
    let early : is_early project bookings b a ≡ true = sym c.is_early.ensures
    ∙ c.if-is_early.true in
    let violation = BeforePredecessor b a in
    sym (first_of-is (early_after project bookings b) 1 (activity_count project) a violation
    (omega arith) (omega (arith, c.count-predecessor-end.ensures.value)) (rw early refl)
    c.loop-predecessor.invariant)

pub returns : goal.returns
unfolding early_at
returns c =
    let project = c.args.instance.now in
    sym (first_of-none (early_after project (bookings_of c.args.schedule.now) c.args.activity) 1
    (activity_count project)
    (λ j low high. c.loop-predecessor.invariant j low
    (omega (arith, c.count-predecessor-end.ensures.value))))
