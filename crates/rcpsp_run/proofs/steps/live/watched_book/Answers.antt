use Rattle.std.proofs.Common.{subst}
use Rattle.book_table.specs.Passes.{AreFresh}
use Rattle.rcpsp_run.proofs.steps.live.watched_book.Goals as goal

pub returns-clause-fresh : goal.returns-clause-fresh
returns-clause-fresh c =
    subst (AreFresh c.in_ok-book.book) c.in-Some.ensures.items c.in_ok-book.ensures.2
