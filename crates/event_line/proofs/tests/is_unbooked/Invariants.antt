use Rattle.std.proofs.Common.{◌≢◌, ℕ, ◌<◌, get_or}
use Rattle.rc_instance.specs.Usage.{Booking}
use Rattle.event_line.proofs.tests.is_unbooked.Given as goal

abbrev pub invariant-loop-index : goal.invariant-loop-index
invariant-loop-index l = (i : ℕ) (d : Booking) → i < l.index
    → (get_or l.line.bookings i d).activity ≢ l.activity
