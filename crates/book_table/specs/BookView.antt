-- How the fields of a book and of a pass are seen.
use Rattle.std.specs.Prelude.{◌≡◌, ℕ, min, ◌+◌, ◌<◌, List, [], length, slice_index}
use Rattle.activity_net.specs.Network.{Listing}
use Rattle.book_table.specs.declared.book.Book.TheInside.{Inside as InsideBook}
use Rattle.book_table.specs.declared.pass.Pass.TheInside.{Inside as InsidePass}
use Rattle.capacity_profile.specs.Lanes.{lane_of}
use Rattle.book_rule.specs.Listed.{IsBookable, count, activity_at, width, horizon_of, lasts, need, room}
use Rattle.book_rule.specs.Layout.{place, word_count}
use Rattle.book_table.specs.Passes.{RunningBook, PassToken}

-- the position of each activity
pub record ArePlaces (list : Listing) (places : List ℕ) : Type 0 where
  pub long : length places ≡ count list
  pub within : (i : ℕ) → i < length places → slice_index places i < count list
  pub at : (i : ℕ) → i < length places → activity_at list (slice_index places i) ≡ i + 1

-- word w of what the activity at position i needs, where it takes time
abbrev pub IsNeed : Listing → ℕ → ℕ → ℕ → Type 0
IsNeed list i w word = 0 < lasts list i → (l : ℕ) → l < 4 → lane_of word l ≡ need list i w l

-- these words of each position, one position after the other
pub record AreNeeds (list : Listing) (needs : List ℕ) : Type 0 where
  pub long : length needs ≡ place (width list) (count list) 0
  pub at : (i w : ℕ) → i < count list → w < width list
      → IsNeed list i w (slice_index needs (place (width list) i w))

-- word w of how much there is in every period
abbrev pub IsRoom : Listing → ℕ → ℕ → Type 0
IsRoom list w word = (l p : ℕ) → l < 4 → lane_of word l ≡ room list w l p

-- each of these words is the one of its place
abbrev pub AreRooms : Listing → List ℕ → Type 0
AreRooms list rooms = (w : ℕ) → w < length rooms → IsRoom list w (slice_index rooms w)

abbrev pub book_of : InsideBook → RunningBook
book_of book = record {
  table = book.table.shared.table_id;
  listing = book.list.now;
  passes =
      book.passes;
}

pub record KeepsBook (book : InsideBook) : Type 0 where
  pub bookable : IsBookable book.list.now
  pub keyed : book.table.shared.key ≡ book.list.now
  pub bare : book.table.shared.table_id.slots ≡ 0
  pub wide : book.table.shared.table_id.words ≡ word_count book.list.now
  pub count_is : book.positions ≡ count book.list.now
  pub width_is : book.words ≡ width book.list.now
  pub horizon_is : book.horizon ≡ horizon_of book.list.now
  pub places_are : ArePlaces book.list.now book.places.items
  pub needs_are : AreNeeds book.list.now book.needs.items
  pub rooms_are : AreRooms book.list.now book.rooms.items
  pub some : 0 < book.passes
  pub counts : length book.counts.items ≡ book.passes
  pub schedule : length book.schedule ≡ count book.list.now

abbrev pub pass_of : InsidePass → PassToken
pass_of pass = record { table = pass.seat.table_id; view = pass.seat.me.0 }

-- what a pass keeps is what its view says
pub record KeepsPass (pass : InsidePass) : Type 0 where
  pub number : pass.seat.me.0.number ≡ pass.number
  pub seen : pass.seat.me.0.seen ≡ pass.seen
  pub mine : pass.seat.me.0.mine ≡ pass.mine
  pub loaded : pass.loaded ≡ min pass.seat.me.0.loaded 18446744073709551615
  pub resting : pass.seat.me.0.resting ≡ pass.resting
  pub offered : pass.seat.me.0.offered ≡ pass.offered.items
  pub adopted : pass.seat.me.0.adopted ≡ pass.adopted
  pub search : pass.seat.me.0.search ≡ pass.search
  pub hand : pass.seat.me.0.hand ≡ pass.hand
  pub slots : pass.seat.me.1 ≡ []
