use Rattle.book_table.specs.Passes.{AreAll}
use Rattle.book_tests.proofs.stepping.steps.Given as goal

abbrev pub invariant-loop-at : goal.invariant-loop-at
invariant-loop-at l = AreAll l.book l.passes.items
