use Rattle.book_table.specs.Passes.{IsPassOf}
use Rattle.worker_tests.proofs.booking.book_in_hand.Given as goal

abbrev pub invariant-steps : goal.invariant-steps
invariant-steps l = IsPassOf l.book l.pass
