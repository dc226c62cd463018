use Rattle.std.proofs.Common.{◌∙◌, ap}
use Rattle.rc_instance.specs.Lists.{first_of}
use Rattle.rc_instance.specs.Usage.{last_finish}
use Rattle.rc_instance.specs.Schedule.{bookings_of}
use Rattle.schedule_check.specs.Violation.{over_at, first_over}
use Rattle.schedule_check.proofs.FirstLaws.{first_of-covers}
use Rattle.schedule_check.proofs.TurningLaws.{over_at-ended, turning_covers}
use Rattle.schedule_check.proofs.over_capacity.first_over.Goals as goal

pub returns : goal.returns
unfolding first_over
returns c =
    let project = c.args.instance.now in
    let starts = c.args.schedule.now in
    let bookings = bookings_of starts in
    let periods = c.in_ok-periods.periods.items in
    c.first_over_among.ensures
    ∙ ap (first_of (over_at project bookings)) c.deref.ensures.value
    ∙ first_of-covers (over_at project bookings) periods (last_finish project bookings)
    (turning_covers project starts periods c.in_ok-periods.ensures)
    (over_at-ended project bookings)
