-- Books, passes and closed books, as contracts see them.
use Rattle.std.specs.Prelude.{◌≡◌, ℕ, ◌<◌, Bool, true, false, List, [], ◌∷◌, ◌++◌, length, slice_index_or, Option, None, Some}
use Rattle.atomic_table.specs.Seated.{TableId}
use Rattle.activity_net.specs.Network.{Listing}
use Rattle.book_rule.specs.declared.view.View.{View}
use Rattle.book_rule.specs.Views.{new_view}
use Rattle.book_rule.specs.Knowledge.{IsOwn}

-- a book: which table it is, the list whose activities it books, and how many passes it has
pub record RunningBook : Type 0 where
  pub table : TableId
  pub listing : Listing
  pub passes : ℕ

-- a pass: which table it steps on, and what it knows
pub record PassToken : Type 0 where
  pub table : TableId
  pub view : View

-- a closed book: its list, and how many bookings each pass has made
pub record ClosedBook : Type 0 where
  pub listing : Listing
  pub booked : List ℕ

-- a pass of the book
pub record IsPassOf (book : RunningBook) (pass : PassToken) : Type 0 where
  pub same : pass.table ≡ book.table
  pub own : IsOwn book.listing pass.view
  pub alone : pass.view.gathered ≡ []
  pub chief : pass.view.number ≡ 0 → pass.view.made ≡ book.passes

-- one that holds nothing, and one that holds
pub record IsFree (book : RunningBook) (pass : PassToken) : Type 0 where
  pub own : IsPassOf book pass
  pub empty : pass.view.hand.holds ≡ false

pub record Holds (book : RunningBook) (pass : PassToken) : Type 0 where
  pub own : IsPassOf book pass
  pub full : pass.view.hand.holds ≡ true

-- a pass of the book that has done nothing yet
abbrev pub fresh_pass : RunningBook → ℕ → Bool → ℕ → PassToken
fresh_pass book number resting made = record {
  table = book.table;
  view = new_view book.listing number resting made;
}

-- all passes of the book, each once, in order of number
pub record AreAll (book : RunningBook) (passes : List PassToken) : Type 0 where
  pub count : length passes ≡ book.passes
  pub own : (k : ℕ) (d : PassToken) → k < length passes → IsPassOf book (slice_index_or passes k d)
  pub number : (k : ℕ) (d : PassToken) → k < length passes
      → (slice_index_or passes k d).view.number ≡ k

-- the same, as a new book has them: they have done nothing, and all but pass 0 rest
pub record AreFresh (book : RunningBook) (passes : List PassToken) : Type 0 where
  pub all : AreAll book passes
  pub first : (d : PassToken) → 0 < length passes
      → (slice_index_or passes 0 d).view ≡ new_view book.listing 0 false book.passes
  pub others : (k : ℕ) (d : PassToken) → 0 < k → k < length passes
      → (slice_index_or passes k d).view ≡ new_view book.listing k true 0

-- the same, at rest
pub record AreAtRest (book : RunningBook) (passes : List PassToken) : Type 0 where
  pub all : AreAll book passes
  pub rest : (k : ℕ) (d : PassToken) → k < length passes
      → (slice_index_or passes k d).view.resting ≡ true

-- the passes, and that of a watch after them
abbrev pub all_of : List PassToken → Option PassToken → List PassToken
all_of passes None = passes
all_of passes (Some watch) = passes ++ watch ∷ []
