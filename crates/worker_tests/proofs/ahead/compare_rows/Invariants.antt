use Rattle.book_table.specs.Passes.{IsFree}
use Rattle.worker_tests.proofs.ahead.compare_rows.Given as goal

abbrev pub invariant-rows : goal.invariant-rows
invariant-rows g l = IsFree l.book l.first × IsFree l.book l.second
