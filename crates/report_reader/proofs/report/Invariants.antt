use Rattle.std.proofs.Common.{◌≡◌}
use Rattle.book_table.specs.Passes.{RunningBook, PassToken, IsFree}
use Rattle.report_reader.specs.Reported.{AreStarts}
use Rattle.report_reader.proofs.report.Given as goal

-- so many starts were shown, and only the search has changed since the turn was loaded
pub record IsShowing (book : RunningBook) (before now : PassToken) : Type 0 where
  pub own : IsFree book now
  pub view : now.view ≡ record before.view { search = now.view.search }

abbrev pub invariant-loop-position : goal.invariant-loop-position
invariant-loop-position l =
    IsShowing l.book l.initial.pass l.pass × AreStarts l.book.listing l.position l.fn.out l.out
