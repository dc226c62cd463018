use Rattle.std.proofs.Common.{◌≡◌, ◌-◌, ◌*◌, ◌≤◌, take}
use Rattle.rc_instance.specs.Usage.{usage}
use Rattle.rc_instance.specs.Schedule.{bookings_of}
use Rattle.schedule_check.proofs.over_capacity.usage.Given as goal

abbrev pub invariant-loop-activity : goal.invariant-loop-activity
invariant-loop-activity l =
    (l.used ≡ usage l.instance (bookings_of (take (l.activity - 1) l.schedule)) l.resource l.period)
    × (l.used ≤ (l.activity - 1) * 4294967295)
