use Rattle.std.proofs.Common.{◌≡◌, ℕ, ◌<◌, ◌≤◌, None}
use Rattle.rc_instance.specs.Schedule.{bookings_of}
use Rattle.schedule_check.specs.Violation.{early_after}
use Rattle.schedule_check.proofs.early_starts.early_at.Given as goal

abbrev pub invariant-loop-predecessor : goal.invariant-loop-predecessor
invariant-loop-predecessor l =
    (a : ℕ) → 1 ≤ a → a < l.predecessor
    → early_after l.instance (bookings_of l.schedule) l.activity a ≡ None
