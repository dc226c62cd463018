use Rattle.book_table.specs.Passes.{IsFree}
use Rattle.worker_tests.proofs.booking.book_some.Given as goal

abbrev pub invariant-bookings : goal.invariant-bookings
invariant-bookings l = IsFree l.book l.pass
