use Rattle.std.proofs.Common.{◌+◌, sym, ◌∙◌, arith}
use Rattle.std.proofs.lemmas.Bool.{lt-ltb}
use Rattle.swap_descent.specs.Descent.{serial_makespan}
use Rattle.swap_descent.proofs.PlacedLaws.{placed_count, placed_less, placed_whole}
use Rattle.swap_descent.proofs.BoundLaws.{IsBelow-more, below_all, reached_at}
use Rattle.swap_descent.proofs.trial.attempt.Goals as goal

pub book-requires-clause-position : goal.book-requires-clause-position
book-requires-clause-position c = omega (arith, c.length_of-count.ensures.length)

pub book-requires-clause-placed : goal.book-requires-clause-placed
book-requires-clause-placed c = c.loop-position.invariant.placed

pub undo_to-requires : goal.undo_to-requires
undo_to-requires c =
    let long = placed_count c.args.list.now (c.loop-position.position + 1) c.book.new.line
    c.book.new.starts (omega (arith, c.length_of-count.ensures.length)) c.book.ensures.placed in
    omega arith

pub returns-then-not-book-clause-told : goal.returns-then-not-book-clause-told
returns-then-not-book-clause-told c =
    let placed = c.loop-position.invariant.placed in
    sym (reached_at c.args.list.now.network.project c.args.list.now.order c.loop-position.position
    c.args.limit placed.fits placed.limits placed.feasible
    (omega (arith, c.length_of-count.ensures.length))
    (sym c.book.ensures.told ∙ c.if-not-book.true))

pub returns-then-not-book-clause-placed : goal.returns-then-not-book-clause-placed
returns-then-not-book-clause-placed c =
    placed_less c.args.list.now c.args.from (c.loop-position.position + 1) c.book.new.line
    c.undo_to.new.line c.book.new.starts (omega arith)
    (omega (arith, c.length_of-count.ensures.length)) c.book.ensures.placed c.undo_to.ensures.project
    c.undo_to.ensures.left

pub loop-position-preserved : goal.loop-position-preserved
loop-position-preserved c = record {
  placed = c.book.ensures.placed;
  below = IsBelow-more c.args.list.now.network.project c.args.list.now.order
      c.loop-position.position c.args.limit c.loop-position.invariant.below
      (sym c.book.ensures.told ∙ c.if-not-book.false);
}

pub returns-clause-told : goal.returns-clause-told
returns-clause-told c =
    let project = c.args.list.now.network.project in
    let order = c.args.list.now.order in
    let placed = c.loop-position.invariant.placed in
    sym (lt-ltb (serial_makespan project order) c.args.limit
    (below_all project order c.loop-position.position c.args.limit placed.limits placed.feasible
    (omega (arith, c.length_of-count.ensures.length)) c.loop-position.invariant.below))

pub returns-clause-placed : goal.returns-clause-placed
returns-clause-placed c =
    placed_whole c.args.list.now c.loop-position.position c.loop-position.line c.loop-position.starts
    (omega (arith, c.length_of-count.ensures.length)) c.loop-position.invariant.placed
