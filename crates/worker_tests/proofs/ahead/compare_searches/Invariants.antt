use Rattle.book_table.specs.Passes.{IsFree}
use Rattle.worker_tests.proofs.ahead.compare_searches.Given as goal

abbrev pub invariant-searches : goal.invariant-searches
invariant-searches g l = IsFree l.book l.second
