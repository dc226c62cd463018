use Rattle.std.proofs.Common.{◌≡◌, ◌/◌, true}
use Rattle.book_rule.specs.Listed.{count}
use Rattle.book_table.specs.Passes.{IsFree}
use Rattle.worker_run.proofs.TellLaws.{IsTelling}
use Rattle.worker_run.proofs.watch.look_on.Given as goal

-- the pass goes on, and has told no more than it has seen
abbrev pub invariant-loop-look : goal.invariant-loop-look
invariant-loop-look g l = record {
  own : IsFree l.book l.pass;
  number : l.pass.view.number ≡ l.fn.pass.view.number;
  rests : l.fn.pass.view.resting ≡ true → l.pass.view.resting ≡ true;
  telling : IsTelling (count l.book.listing) l._look (l.pass.view.seen / 2)
      (g.N.Sink.faults l.fn.note) (g.N.Sink.faults l.note)
      (g.N.Sink.held l.fn.note) (g.N.Sink.held l.note);
  failing : g.N.Sink.failing l.note ≡ g.N.Sink.failing l.fn.note;
  left : g.N.Sink.room l.note ≡ g.N.Sink.room l.fn.note;
}
