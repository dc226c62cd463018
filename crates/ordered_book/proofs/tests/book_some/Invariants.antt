use Rattle.book_table.specs.Passes.{IsFree}
use Rattle.ordered_book.proofs.tests.book_some.Given as goal

abbrev pub invariant-tries : goal.invariant-tries
invariant-tries l = IsFree l.book l.pass
