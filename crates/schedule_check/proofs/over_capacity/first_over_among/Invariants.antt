use Rattle.std.proofs.Common.{◌≡◌, drop}
use Rattle.rc_instance.specs.Lists.{first_of}
use Rattle.rc_instance.specs.Schedule.{bookings_of}
use Rattle.schedule_check.specs.Violation.{over_at}
use Rattle.schedule_check.proofs.over_capacity.first_over_among.Given as goal

abbrev pub invariant-loop-period : goal.invariant-loop-period
invariant-loop-period l =
    first_of (over_at l.instance (bookings_of l.schedule)) (drop l.period-index l.periods)
    ≡ first_of (over_at l.instance (bookings_of l.schedule)) l.periods
