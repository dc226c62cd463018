use Rattle.std.proofs.Common.{◌≡◌, ℕ, ◌<◌, ◌≤◌, None}
use Rattle.rc_instance.specs.Schedule.{bookings_of}
use Rattle.schedule_check.specs.Violation.{over_of}
use Rattle.schedule_check.proofs.over_capacity.over_at.Given as goal

abbrev pub invariant-loop-resource : goal.invariant-loop-resource
invariant-loop-resource l =
    (k : ℕ) → 1 ≤ k → k < l.resource
    → over_of l.instance (bookings_of l.schedule) l.period k ≡ None
