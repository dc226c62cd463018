-- The rule of a book, in eleven parts: turn, hand, starts, profile, holder, bounds, search,
-- activity, counts, offers and floors. Each part has its name in the records below: of the words,
-- of where the book stands, of each view, and of all views together.
use Rattle.std.specs.Prelude.{◌≡◌, ◌≢◌, ℕ, ◌+◌, ◌*◌, ◌/◌, ◌<◌, ◌≤◌, ◌&&◌, ◌||◌, Bool, true, false, List, [], length, slice_index, nat_eq, nat_lt, if◌then◌else◌, All}
use Rattle.std.specs.List.{sum_by}
use mathlib.Core.Option.{some}
use lib.ListN.{get_elem?}
use Rattle.capacity_profile.specs.Lanes.{lane_of}
use Rattle.atomic_table.specs.Table.{State}
use Rattle.activity_net.specs.Network.{Listing}
use Rattle.book_rule.specs.declared.view.Reach.{Reach}
use Rattle.book_rule.specs.declared.view.Search.{Search}
use Rattle.book_rule.specs.declared.view.Hand.{Hand}
use Rattle.book_rule.specs.declared.view.Offer.{Offer}
use Rattle.book_rule.specs.declared.view.Found.{Found}
use Rattle.book_rule.specs.declared.view.Kept.{Kept}
use Rattle.book_rule.specs.declared.view.View.{View}
use Rattle.book_rule.specs.Listed.{IsBookable, count, lasts, begins, least_of, width, horizon_of, level}
use Rattle.book_rule.specs.Reaches.{none_reached, is_whole, share}
use Rattle.book_rule.specs.Searches.{IsSeen, is_chosen, block_end}
use Rattle.book_rule.specs.Layout.{turn_word, start_word, offer_word, profile_word, floor_word, word_count, blocks}
use Rattle.book_rule.specs.Views.{weight}

-- where the book stands
pub record Stand : Type 0 where
  pub done : ℕ  -- how many bookings are complete
  pub busy : ℕ  -- 1 while the next one is in hand, or else 0
  pub holder : ℕ  -- the seat that has it in hand
  pub added : Reach  -- how far its words were added
  pub stored : Bool  -- whether its start is stored
  pub offers : ℕ → ℕ  -- the greatest start that was offered for each position

abbrev pub turn_of : Stand → ℕ
turn_of d = 2 * d.done + d.busy

-- what a lane of the profile shows: the complete bookings, and the part of the next one that was
-- added
abbrev pub shown : Listing → Stand → ℕ → ℕ → ℕ → ℕ
shown list d w l p = level list d.done w l p + share list d.done d.added w l p

-- what a start word shows: 0, or the start plus 1
abbrev pub start_value : Listing → Stand → ℕ → ℕ
start_value list d i = if nat_lt i d.done || (nat_eq i d.done && d.stored) then begins list i + 1
    else 0

-- words that show a value for each position, or a level for each lane
abbrev pub StartWords : Listing → (ℕ → ℕ) → List ℕ → Type 0
StartWords list value words = (i : ℕ) → i < count list → slice_index words (start_word i) ≡ value i

abbrev pub OfferWords : Listing → (ℕ → ℕ) → List ℕ → Type 0
OfferWords list value words = (i : ℕ) → i < count list
    → slice_index words (offer_word list i) ≡ value i

abbrev pub ProfileWords : Listing → (ℕ → ℕ → ℕ → ℕ) → List ℕ → Type 0
ProfileWords list at words = (p w l : ℕ) → p < horizon_of list → w < width list → l < 4
    → lane_of (slice_index words (profile_word list p w)) l ≡ at w l p

-- a floor is at most the level in each period of its block
abbrev pub FloorWords : Listing → (ℕ → ℕ → ℕ → ℕ) → List ℕ → Type 0
FloorWords list at words = (b w p l : ℕ) → 32 * b ≤ p → p < block_end list b → w < width list
    → l < 4 → lane_of (slice_index words (floor_word list b w)) l ≤ at w l p

-- the words of a book that stands at d
pub record Words (list : Listing) (d : Stand) (words : List ℕ) : Type 0 where
  pub wide : length words ≡ word_count list
  pub turn : slice_index words turn_word ≡ turn_of d
  pub starts : StartWords list (start_value list d) words
  pub profile : ProfileWords list (shown list d) words
  pub offers : OfferWords list d.offers words
  pub floors : FloorWords list (shown list d) words

-- where a book can stand
pub record CanStand (list : Listing) (d : Stand) : Type 0 where
  pub turn : (d.busy ≤ 1) × (turn_of d ≤ 2 * count list)
  pub hand : d.busy ≡ 0 → (d.added ≡ none_reached) × (d.stored ≡ false)
  pub starts : d.stored ≡ true → is_whole list d.done d.added ≡ true
  pub profile : (d.added.periods ≤ lasts list d.done)
      × (d.added.periods ≡ lasts list d.done → d.added.words ≡ 0)
  pub bounds : (i : ℕ) → i < count list → turn_of d ≤ 2 * i → d.offers i ≤ begins list i
  pub offers : (i : ℕ) → i < count list → d.offers i < 4294967296

-- the view at a seat holds position d.done: hand, holder and activity
pub record HandFits (list : Listing) (d : Stand) (seat seen : ℕ) (resting : Bool) (hand : Hand)
    (s : Search) : Type 0 where
  pub busy : d.busy ≡ 1
  pub own : seat ≡ d.holder
  pub turn : seen ≡ turn_of d
  pub awake : resting ≡ false
  pub position : s.position ≡ d.done
  pub claimed : s.ahead ≡ false
  pub added : hand.added ≡ d.added
  pub stored : hand.stored ≡ d.stored
  pub early : s.least ≤ begins list d.done
  pub backed : IsSeen list d.done s
  pub unwritten : is_chosen list s ≡ false → (d.added ≡ none_reached) × (d.stored ≡ false)

-- a search ahead: beside what was booked at its beginning it is right, and for what is booked now
-- not late
pub record SearchFits (list : Listing) (d : Stand) (s : Search) : Type 0 where
  pub begun : s.begun ≤ turn_of d
  pub backed : IsSeen list (s.begun / 2) s
  pub early : turn_of d ≤ 2 * s.position → s.least ≤ least_of list (d.done + d.busy) s.position

-- offered and adopted starts are at most the offer words
pub record OffersFit (list : Listing) (d : Stand) (offered : List ℕ)
    (adopted : Offer) : Type 0 where
  pub each : (i : ℕ) → i < count list → slice_index offered i ≤ d.offers i
  pub loaded : adopted.position < count list → adopted.start ≤ d.offers adopted.position

-- a kept value is at most what its word shows
pub record KeptFits (list : Listing) (d : Stand) (kept : Kept) : Type 0 where
  pub within : kept.index < width list
  pub lanes : (l : ℕ) → l < 4 → lane_of kept.value l ≤ shown list d kept.index l kept.period

-- a pass that was not joined into pass 0, which has made so many passes and joined those up to
-- `last`
pub record SeatFits (list : Listing) (last made seat number : ℕ) (own : Listing)
    (offered gathered : List ℕ) : Type 0 where
  pub same : own ≡ list
  pub long : length offered ≡ count list
  pub below : number < made
  pub later : seat ≢ 0 → (last < number) × (gathered ≡ [])

-- what holds of the view at a seat
pub record Knows (list : Listing) (d : Stand) (last made seat : ℕ) (v : View) : Type 0 where
  pub pass : v.spent ≡ false → SeatFits list last made seat v.number v.list v.offered v.gathered
  pub spent : v.spent ≡ true → (v.resting ≡ true) × (v.hand.holds ≡ false) × (weight v ≡ 0)
  pub turn : v.seen ≤ turn_of d
  pub searched : v.search.position < count list
  pub hand : v.hand.holds ≡ true → HandFits list d seat v.seen v.resting v.hand v.search
  pub search : v.search.ahead ≡ true → SearchFits list d v.search
  pub found : v.found.position < count list
  pub bounds : turn_of d ≤ 2 * v.found.position → v.found.start ≤ begins list v.found.position
  pub offers : OffersFit list d v.offered v.adopted
  pub floors : All (KeptFits list d) v.kept
  pub counts : length v.released ≡ v.mine

module _ {S : Type 0} where
  -- some view at a seat is such
  abbrev pub SomeView : State S View → ℕ → (View → Type 0) → Type 0
  SomeView s seat P = (v : View) × (get_elem? s.views seat ≡ some v) × P v

  pub record Rule (list : Listing) (s : State S View) : Type 0 where
    pub bookable : IsBookable list
    pub stand : Stand
    pub stands : CanStand list stand
    pub words : Words list stand s.words
    pub chief : View
    pub chief_is : get_elem? s.views 0 ≡ some chief
    pub first : (chief.number ≡ 0) × (chief.spent ≡ false)
    pub each : (seat : ℕ) (v : View) → get_elem? s.views seat ≡ some v
        → Knows list stand (length chief.gathered) chief.made seat v
    pub apart : (i j : ℕ) (v w : View) → i ≢ j → get_elem? s.views i ≡ some v
        → get_elem? s.views j ≡ some w → v.spent ≡ false → w.spent ≡ false → v.number ≢ w.number
    pub held : stand.busy ≡ 1 → SomeView s stand.holder (λ v. v.hand.holds ≡ true)
    pub awake : turn_of stand < 2 * count list → (seat : ℕ)
        × SomeView s seat (λ v. v.resting ≡ false)
    pub counts : sum_by weight s.views ≡ stand.done

-- the words of a book that is complete
pub record IsComplete (list : Listing) (words : List ℕ) : Type 0 where
  pub wide : length words ≡ word_count list
  pub starts : (i : ℕ) → i < count list → slice_index words (start_word i) ≡ begins list i + 1
  pub profile : ProfileWords list (level list (count list)) words
