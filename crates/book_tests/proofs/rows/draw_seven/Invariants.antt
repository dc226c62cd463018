use Rattle.book_table.specs.Passes.{IsFree}
use Rattle.book_tests.proofs.rows.draw_seven.Given as goal

abbrev pub invariant-loop-ticket : goal.invariant-loop-ticket
invariant-loop-ticket g l = IsFree l.book l.pass
