-- What a search ahead tells its caller: a start between two bounds, or that it came too late.
use Rattle.std.specs.Prelude.{◌≡◌, ℕ, ◌+◌, ◌*◌, ◌/◌, ◌%◌, ◌<◌, ◌≤◌, ◌⊎◌, true}
use Rattle.activity_net.specs.Network.{Listing}
use Rattle.book_rule.specs.declared.view.Search.{Search}
use Rattle.book_rule.specs.declared.view.View.{View}
use Rattle.book_rule.specs.Listed.{count, lasts, begins, least_of, horizon_of}
use Rattle.book_rule.specs.Views.{after_begin}
use Rattle.spec_search.specs.declared.guess.Guess.{Guess}
use Rattle.spec_search.specs.declared.guess.Guess.TheVariants.{Found, Late}

-- a search ahead changes only what its pass has seen, loaded, searched and found
abbrev pub searched : View → View → View
searched v w = record v {
  seen = w.seen;
  looks = w.looks;
  resting = w.resting;
  loaded = w.loaded;
  search = w.search;
  found = w.found;
  block = w.block;
  kept = w.kept;
}

pub record HasSearched (v w : View) : Type 0 where
  pub view : w ≡ searched v w
  pub later : v.seen ≤ w.seen
  pub rests : v.resting ≡ true → w.resting ≡ true

-- A start was found between two turns. It is no earlier than the least start beside the bookings
-- that were complete at the first one. Where the second is not past the position, it is no later
-- than the least start beside those complete by then, with the one in hand, and so no later than
-- the serial start.
pub record IsFound (list : Listing) (v w : View) (position start before after : ℕ) : Type 0 where
  pub begun : before ≤ 2 * position
  pub turns : (v.seen ≤ before) × (before ≤ after) × (after ≤ 2 * count list)
  pub low : least_of list (before / 2) position ≤ start
  pub high : after ≤ 2 * position → start ≤ least_of list ((after + 1) / 2) position
  pub serial : after ≤ 2 * position → start ≤ begins list position
  pub exact : before ≡ after → before % 2 ≡ 0 → start ≡ least_of list (before / 2) position
  pub seen : w.seen ≡ after
  pub looks : w.looks ≡ v.looks + 2
  pub found : w.found
      ≡ record { position = position; start = start; before = before; after = after }

-- a search of the position, begun in time, has no start left from which the activity ends by the
-- horizon
pub record IsPastHorizon (list : Listing) (position : ℕ) (s : Search) : Type 0 where
  pub position_is : s.position ≡ position
  pub begun : s.begun ≤ 2 * position
  pub past : horizon_of list < s.least + lasts list position

-- The turn is past the position: it was so at the first look, which was the only one; or the search
-- passed the horizon, and it was so at the second.
pub record IsLate (list : Listing) (v w : View) (position turn : ℕ) : Type 0 where
  pub past : 2 * position < turn
  pub turns : (v.seen ≤ turn) × (turn ≤ 2 * count list)
  pub seen : w.seen ≡ turn
  pub cause : (w ≡ after_begin list v position turn)
      ⊎ ((w.looks ≡ v.looks + 2) × IsPastHorizon list position w.search)

abbrev pub IsGuess : Listing → View → View → ℕ → Guess → Type 0
IsGuess list v w position (Found start before after) = IsFound list v w position start before after
IsGuess list v w position (Late turn) = IsLate list v w position turn
