-- What each kind of step tells its caller: of the list, the view before, the number that the step
-- found, and the view after.
use Rattle.std.specs.Prelude.{◌≡◌, ◌≢◌, ℕ, ◌+◌, ◌*◌, ◌/◌, ◌<◌, ◌≤◌, ◌⊎◌, true, slice_index}
use Rattle.capacity_profile.specs.Lanes.{lane_of}
use Rattle.atomic_table.specs.Table.{Me}
use Rattle.activity_net.specs.Network.{Listing}
use Rattle.book_rule.specs.declared.view.Search.{Search}
use Rattle.book_rule.specs.declared.view.Kept.{Kept}
use Rattle.book_rule.specs.declared.view.View.{View}
use Rattle.std.specs.List.{Contains}
use Rattle.book_rule.specs.Listed.{count, lasts, begins, least_of, horizon_of, level}
use Rattle.book_rule.specs.Searches.{known_search, block_end}
use Rattle.book_rule.specs.Knowledge.{IsOwn}
use Rattle.book_rule.specs.Views.{after_turn, after_begin, after_end, after_claim_with, adopted_search, after_profile, after_start_word, after_add, after_store, after_release, after_ticket, after_offer, after_raise, after_floor_word}

-- the least start of a search is at most the least start beside what is booked by turn t
pub record IsEarly (list : Listing) (s : Search) (t : ℕ) : Type 0 where
  pub least : s.least ≤ least_of list ((t + 1) / 2) s.position
  pub start : s.least ≤ begins list s.position
  pub ends : s.least + lasts list s.position ≤ horizon_of list

-- the same where the search is one ahead of that turn
abbrev pub IsEarlyAhead : Listing → Search → ℕ → Type 0
IsEarlyAhead list s t = s.ahead ≡ true → t ≤ 2 * s.position → IsEarly list s t

-- a loaded turn is no earlier than the one seen before
pub record IsLaterTurn (list : Listing) (v : View) (t : ℕ) : Type 0 where
  pub later : v.seen ≤ t
  pub within : t ≤ 2 * count list

-- a start word is 0 or the start plus 1, and not 0 where the turn that was seen is past the
-- position
pub record IsStartWord (list : Listing) (seen i x : ℕ) : Type 0 where
  pub value : (x ≡ 0) ⊎ (x ≡ begins list i + 1)
  pub due : 2 * i + 2 ≤ seen → x ≡ begins list i + 1

-- lane by lane, a word is at most what the whole schedule uses in the period
abbrev pub IsBelowWhole : Listing → ℕ → ℕ → ℕ → Type 0
IsBelowWhole list p w x = (l : ℕ) → l < 4 → lane_of x l ≤ level list (count list) w l p

pub record Looked (list : Listing) (v : View) (t : ℕ) (after : View) : Type 0 where
  pub view : after ≡ after_turn list v t
  pub turn : IsLaterTurn list v t
  pub early : IsEarlyAhead list v.search t

pub record Begun (i : ℕ) (list : Listing) (v : View) (t : ℕ) (after : View) : Type 0 where
  pub view : after ≡ after_begin list v i t
  pub turn : IsLaterTurn list v t

pub record Ended (list : Listing) (v : View) (t : ℕ) (after : View) : Type 0 where
  pub view : after ≡ after_end list v t
  pub turn : IsLaterTurn list v t
  pub early : IsEarlyAhead list v.search t
  pub late : least_of list (v.search.begun / 2) v.search.position ≤ v.search.least

-- the turn was claimed with a search of its position, or a later one was shown
pub record ClaimedWith (search : Listing → View → Search) (turn : ℕ) (list : Listing) (v : View)
    (t : ℕ) (after : View) : Type 0 where
  pub won : t ≡ turn → after ≡ after_claim_with (search list v) v turn
  pub lost : t ≢ turn → (after ≡ after_turn list v t) × (turn < t) × (t ≤ 2 * count list)

abbrev pub Claimed : ℕ → Listing → View → ℕ → View → Type 0
Claimed turn list v t after = ClaimedWith (λ _ w. adopted_search w turn) turn list v t after

abbrev pub ClaimedKnown : ℕ → ℕ → Listing → View → ℕ → View → Type 0
ClaimedKnown turn start list v t after =
    ClaimedWith (λ l _. known_search l (turn / 2) turn start) turn list v t after

pub record Loaded (p w : ℕ) (list : Listing) (v : View) (x : ℕ) (after : View) : Type 0 where
  pub view : after ≡ after_profile list v p w x
  pub low : IsBelowWhole list p w x

pub record StartLoaded (i : ℕ) (list : Listing) (v : View) (x : ℕ) (after : View) : Type 0 where
  pub view : after ≡ after_start_word list v i x
  pub start : IsStartWord list v.seen i x

abbrev pub Added : Listing → View → ℕ → View → Type 0
Added list v x after = after ≡ after_add list v

abbrev pub Stored : Listing → View → ℕ → View → Type 0
Stored list v x after = after ≡ after_store v

pub record Released (list : Listing) (v : View) (t : ℕ) (after : View) : Type 0 where
  pub view : after ≡ after_release v
  pub turn : t ≡ v.seen

abbrev pub Drew : Listing → View → ℕ → View → Type 0
Drew list v x after = after ≡ after_ticket v x

pub record OfferLoaded (i : ℕ) (list : Listing) (v : View) (x : ℕ) (after : View) : Type 0 where
  pub view : after ≡ after_offer v i x
  pub offered : slice_index v.offered i ≤ x
  pub small : x < 4294967296

abbrev pub Raised : ℕ → ℕ → Listing → View → ℕ → View → Type 0
Raised i start list v x after = after ≡ after_raise v i start

pub record FloorLoaded (b w : ℕ) (list : Listing) (v : View) (x : ℕ) (after : View) : Type 0 where
  pub view : after ≡ after_floor_word list v b w x
  pub low : (p : ℕ) → 32 * b ≤ p → p < block_end list b → IsBelowWhole list p w x

abbrev pub FloorStored : Listing → View → ℕ → View → Type 0
FloorStored list v x after = after ≡ v

-- for each period of block b the pass keeps a value at index w that is nowhere below the floor
abbrev pub IsKeptFloor : Listing → View → ℕ → ℕ → ℕ → Type 0
IsKeptFloor list v b w floor = (p : ℕ) → 32 * b ≤ p → p < block_end list b
    → (kept : Kept) × Contains v.kept kept × (kept.period ≡ p) × (kept.index ≡ w)
    × ((l : ℕ) → l < 4 → lane_of floor l ≤ lane_of kept.value l)

-- what the play of a step is told: that, and what the pass knows of itself afterwards; no slot is
-- used
pub record Tells {S : Type 0} (told : Listing → View → ℕ → View → Type 0) (me : Me S View) (x : ℕ)
    (after : Me S View) : Type 0 where
  pub step : told me.0.list me.0 x after.0
  pub own : IsOwn me.0.list after.0
  pub slots : after.1 ≡ me.1
