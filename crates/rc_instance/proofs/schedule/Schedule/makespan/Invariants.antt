use Rattle.std.proofs.Common.{◌≡◌, ◌-◌, max, drop}
use Rattle.rc_instance.specs.Usage.{last_finish}
use Rattle.rc_instance.specs.Schedule.{bookings_from, makespan}
use Rattle.rc_instance.proofs.schedule.Schedule.makespan.Given as goal

abbrev pub invariant-loop-activity : goal.invariant-loop-activity
invariant-loop-activity l =
    max l.makespan (last_finish l.instance (bookings_from l.activity (drop (l.activity - 1) l.self))) ≡ makespan l.instance l.self
