use Rattle.std.proofs.Common.{◌∙◌, sym, arith}
use Rattle.rc_instance.specs.Project.{activity_count}
use Rattle.rc_instance.specs.Schedule.{bookings_of}
use Rattle.rc_instance.proofs.MisfitLaws.{first_of-is, first_of-none}
use Rattle.schedule_check.specs.Violation.{early_at, first_early}
use Rattle.schedule_check.proofs.early_starts.first_early.Goals as goal

pub returns-in-Some : goal.returns-in-Some
unfolding first_early
returns-in-Some c =
    let project = c.args.instance.now in
    sym (first_of-is (early_at project (bookings_of c.args.schedule.now)) 1
    (activity_count project) c.loop-activity.activity c.in-Some.violation (omega arith)
    (omega (arith, c.count-activity-end.ensures.value)) (sym c.early_at.ensures ∙ c.in-Some.is)
    c.loop-activity.invariant)

pub returns : goal.returns
unfolding first_early
returns c =
    let project = c.args.instance.now in
    sym (first_of-none (early_at project (bookings_of c.args.schedule.now)) 1
    (activity_count project)
    (λ j low high. c.loop-activity.invariant j low
    (omega (arith, c.count-activity-end.ensures.value))))
