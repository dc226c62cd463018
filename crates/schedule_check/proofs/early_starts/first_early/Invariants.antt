use Rattle.std.proofs.Common.{◌≡◌, ℕ, ◌<◌, ◌≤◌, None}
use Rattle.rc_instance.specs.Schedule.{bookings_of}
use Rattle.schedule_check.specs.Violation.{early_at}
use Rattle.schedule_check.proofs.early_starts.first_early.Given as goal

abbrev pub invariant-loop-activity : goal.invariant-loop-activity
invariant-loop-activity l =
    (b : ℕ) → 1 ≤ b → b < l.activity → early_at l.instance (bookings_of l.schedule) b ≡ None
