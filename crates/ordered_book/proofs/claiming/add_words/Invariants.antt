use Rattle.std.proofs.Common.{◌≡◌, ◌+◌, ◌-◌, ◌*◌, ◌<◌}
use Rattle.book_rule.specs.Listed.{lasts, width}
use Rattle.book_table.specs.Passes.{Holds}
use Rattle.ordered_book.specs.Booking.{with_hand}
use Rattle.ordered_book.proofs.claiming.add_words.Given as goal

-- so many words were added
abbrev pub invariant-words : goal.invariant-words
invariant-words l = record {
  own : Holds l.book l.pass;
  only : l.pass.view ≡ with_hand l.fn.pass.view l.pass.view;
  added : l.pass.view.hand.added ≡ l.added;
  inside : 0 < width l.book.listing → l.added.words < width l.book.listing;
}

abbrev pub decreases-words : goal.decreases-words
decreases-words l =
    5 * lasts l.book.listing l.search.position + 5 - (5 * l.added.periods + l.added.words)
