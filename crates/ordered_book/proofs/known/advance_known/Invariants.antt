use Rattle.std.proofs.Common.{◌≡◌, ◌-◌, ◌<◌, ◌≤◌, true}
use Rattle.book_rule.specs.Views.{lets_rest}
use Rattle.book_table.specs.Passes.{IsFree}
use Rattle.ordered_book.specs.Advanced.{HasBooked}
use Rattle.ordered_book.proofs.known.advance_known.Given as goal

-- the turn is the one that was loaded or shown last, and no profile word was loaded
abbrev pub invariant-turns : goal.invariant-turns
invariant-turns g l = record {
  own : IsFree l.book l.pass;
  seen : l.pass.view.seen ≡ l.turn;
  within : l.turn ≤ l.last;
  later : l.fn.pass.view.seen ≤ l.turn;
  rests : lets_rest l.book.listing l.turn ≡ true → l.pass.view.resting ≡ true;
  looks : l.fn.pass.view.looks < l.pass.view.looks;
  booked : HasBooked l.book.listing l.fn.pass.view l.pass.view;
  loaded : l.pass.view.loaded ≡ l.fn.pass.view.loaded;
}

abbrev pub decreases-turns : goal.decreases-turns
decreases-turns g l = l.last - l.turn
