use Rattle.std.proofs.Common.{◌≡◌, ◌+◌}
use Rattle.book_table.specs.Passes.{IsFree}
use Rattle.worker_run.specs.Works.{GoesOn}
use Rattle.worker_run.proofs.work.search_and_book.Given as goal

-- each round has drawn one ticket
abbrev pub invariant-loop-round : goal.invariant-loop-round
invariant-loop-round g l = record {
  own : IsFree l.book l.pass;
  goes : GoesOn l.fn.pass.view l.pass.view;
  draws : l.pass.view.draws ≡ l.fn.pass.view.draws + l._round;
}
