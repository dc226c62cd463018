use Rattle.std.proofs.Common.{ℕ, ◌<◌, ◌≤◌, get_or}
use Rattle.rc_instance.specs.declared.limits.TheConstants.{MAX_HORIZON}
use Rattle.rc_instance.specs.Usage.{Booking, finish}
use Rattle.event_line.proofs.tests.ends_in_time.Given as goal

abbrev pub invariant-loop-index : goal.invariant-loop-index
invariant-loop-index l = (i : ℕ) (d : Booking) → i < l.index
    → finish l.line.project (get_or l.line.bookings i d) ≤ MAX_HORIZON
