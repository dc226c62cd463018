-- The rule of a race: what holds between any two steps.
use Rattle.std.specs.Prelude.{◌≡◌, ◌≢◌, ℕ, ◌+◌, ◌^◌, ◌<◌, ◌≤◌, ◌⊎◌, Bool, true, false, not, List, ◌++◌, length, set, replicate, slice_index, None, Some, IfSome, All, Contains}
use Rattle.std.specs.List.{sum_by}
use mathlib.Core.Option.{some}
use lib.ListN.{get_elem?}
use Rattle.atomic_table.specs.Table.{State}
use Rattle.race_rule.specs.declared.view.SeekerView.{SeekerView}
use Rattle.race_rule.specs.declared.view.TheConstants.{NO_WORD}
use Rattle.race_rule.specs.Views.{blank}

-- the place of the next ticket
abbrev pub ticket_word : ℕ
ticket_word = 0

-- the place of the best word, two cache lines on: to draw a ticket does not take its line away
abbrev pub best_word : ℕ
best_word = 16

-- so many words has the table; those between the two say nothing
abbrev pub word_count : ℕ
word_count = 17

-- the words at the start: no ticket is drawn, and there is no best word
abbrev pub first_words : List ℕ
first_words = set (replicate word_count 0) best_word NO_WORD

-- the words of some samples, not too many
pub record AreWords (words : List ℕ) : Type 0 where
  pub some : 0 < length words
  pub few : length words < 2 ^ 32
  pub below : All (λ word. word < NO_WORD) words

-- a word of the race, or none
abbrev pub IsBestWord : List ℕ → ℕ → Type 0
IsBestWord words best = (best ≡ NO_WORD) ⊎ Contains words best

-- what a seeker knows of the best word and of the next ticket
pub record Knows (words : List ℕ) (from best ticket : ℕ) (view : SeekerView) : Type 0 where
  pub words_are : view.words ≡ words
  pub from_is : view.from ≡ from
  pub seen : best ≤ view.best_seen
  pub next : view.next ≤ ticket
  pub drawn : All (λ t. t < view.next) view.drawn
  pub settled : All (λ t. t < length words → Contains view.done t ⊎ (view.hand ≡ Some t)) view.drawn
  pub done : All (λ t. best ≤ slice_index words t) view.done
  pub gathered : All (λ t. t < length words → best ≤ slice_index words t) view.gathered
  pub hand : IfSome view.hand (λ t. t < length words)
  pub over : view.ended ≡ true → (view.hand ≡ None) × (length words ≤ ticket)

-- a view is spent, or what it says is so
abbrev pub IsSound : List ℕ → ℕ → ℕ → ℕ → SeekerView → Type 0
IsSound words from best ticket view =
    (view ≡ blank) ⊎ ((view.spent ≡ false) × Knows words from best ticket view)

-- 1 where it is true
abbrev pub one_if : Bool → ℕ
one_if true = 1
one_if false = 0

-- how many seekers have ended, of a view: its own, and those that it has taken in
abbrev pub ends : SeekerView → ℕ
ends view = one_if view.ended + view.joined

-- how many seekers were made, of a view: its own, and those that it has taken in
abbrev pub lives : SeekerView → ℕ
lives view = one_if (not view.spent) + view.joined

-- a view tells that the ticket was drawn
pub record IsTaken (views : List SeekerView) (ticket : ℕ) : Type 0 where
  pub seat : ℕ
  pub view : SeekerView
  pub at : get_elem? views seat ≡ some view
  pub has : Contains (view.drawn ++ view.gathered) ticket

-- the view at seat 0, which knows how many seekers there are
pub record HasChief (views : List SeekerView) : Type 0 where
  pub chief : SeekerView
  pub at : get_elem? views 0 ≡ some chief
  pub number : chief.number ≡ 0
  pub made : sum_by lives views ≡ chief.made
  pub few : chief.made ≤ 64

-- the number of another view is above those that are taken in, and below those that are made
pub record IsNumbered (chief : SeekerView) (seat : ℕ) (view : SeekerView) : Type 0 where
  pub below : view.number < chief.made
  pub above : seat ≢ 0 → (chief.joined < view.number) × (view.joined ≡ 0)

-- what holds of a race: of its next ticket, its best word, and its seekers
pub record RaceRule (words : List ℕ) (from : ℕ) (state : State (Unit {0}) SeekerView) : Type 0 where
  pub are_words : AreWords words
  pub wide : length state.words ≡ word_count
  pub best : IsBestWord words (slice_index state.words best_word)
  pub sound : (seat : ℕ) (view : SeekerView) → get_elem? state.views seat ≡ some view
      → IsSound words from (slice_index state.words best_word)
      (slice_index state.words ticket_word) view
  pub taken : (ticket : ℕ) → ticket < length words → ticket < slice_index state.words ticket_word
      → IsTaken state.views ticket
  pub count : slice_index state.words ticket_word ≤ length words + sum_by ends state.views
  pub chief : HasChief state.views
  pub numbered : (chief : SeekerView) → get_elem? state.views 0 ≡ some chief
      → (seat : ℕ) (view : SeekerView) → get_elem? state.views seat ≡ some view
      → view.spent ≡ false → IsNumbered chief seat view
  pub apart : (a b : ℕ) (v w : SeekerView) → get_elem? state.views a ≡ some v
      → get_elem? state.views b ≡ some w → v.spent ≡ false → w.spent ≡ false
      → v.number ≡ w.number → a ≡ b

-- the least of the words
pub record IsLeastWord (words : List ℕ) (best : ℕ) : Type 0 where
  pub is : Contains words best
  pub least : All (λ word. best ≤ word) words
