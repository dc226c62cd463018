-- One position in hand is booked.
use Rattle.std.specs.Prelude.{◌≡◌, ◌+◌, ◌*◌, ◌≤◌, false, [], ◌∷◌, ◌++◌}
use Rattle.activity_net.specs.Network.{Listing}
use Rattle.book_rule.specs.declared.view.View.{View}
use Rattle.book_rule.specs.Listed.{begins, lasts, width}
use Rattle.book_rule.specs.Views.{empty_hand}

-- the view before, with other words added
abbrev pub with_hand : View → View → View
with_hand before after = record before { hand = after.hand }

-- the view before, with the position of its search released
abbrev pub booked_view : View → View → View
booked_view before after = record before {
  seen = before.seen + 1;
  mine = before.mine + 1;
  released = before.released ++ before.search.position ∷ [];
  resting = false;
  hand = empty_hand;
  loaded = after.loaded;
  search = after.search;
  block = after.block;
  kept = after.kept;
}

-- the position in hand was booked at its serial start, by so many loads
pub record IsBooked (list : Listing) (before after : View) : Type 0 where
  pub only : after ≡ booked_view before after
  pub rises : before.loaded ≤ after.loaded
  pub within : after.loaded + width list * before.search.least
      ≤ before.loaded
      + width list * (begins list before.search.position + lasts list before.search.position)
  pub none : lasts list before.search.position ≡ 0 → after.loaded ≡ before.loaded
