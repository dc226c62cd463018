-- A table with an entry for each activity, filled position by position.
use Rattle.std.proofs.Common.{◌≡◌, ◌≢◌, ℕ, ◌+◌, ◌-◌, ◌<◌, ◌⊎◌, inl, inr, List, length, slice_index, slice_set, sym, ap, ◌∙◌, arith, length-set, get_or-set_same, get_or-set_other}
use Rattle.std.proofs.lemmas.List.Elements.{All-get_or}
use Rattle.rc_instance.specs.Project.{IsActivity}
use Rattle.rc_instance.specs.Order.{IsFeasibleList}
use Rattle.rc_instance.proofs.OrderLaws.{place_in_feasible_list}
use Rattle.activity_net.specs.Network.{Listing}
use Rattle.book_rule.specs.Listed.{count, activity_at, project_of}
use Rattle.book_table.specs.BookView.{ArePlaces}

-- the activities of the first n positions have their entries
pub record IsFilled (list : Listing) (value : ℕ → ℕ) (n : ℕ) (table : List ℕ) : Type 0 where
  pub long : length table ≡ count list
  pub at : (i : ℕ) → i < n → i < count list → slice_index table (activity_at list i - 1) ≡ value i

-- what is below the next number is below this one, or is it
pub old_or_last : (i n : ℕ) → i < n + 1 → (i < n) ⊎ (i ≡ n)
old_or_last i n below = grind arith

module _ (list : Listing) (feasible : IsFeasibleList (project_of list) list.order)
    (value : ℕ → ℕ) where
  pub filled-none : (table : List ℕ) → length table ≡ count list → IsFilled list value 0 table
  filled-none table long =
      record { long = long; at = λ i below there. absurd (omega (arith, below)) }

  -- one position more
  pub filled_push : (n a x : ℕ) (table : List ℕ) → n < count list → a ≡ activity_at list n
      → x ≡ value n
      → IsFilled list value n table → IsFilled list value (n + 1) (slice_set table (a - 1) x)
  filled_push n a x table there is gives so = record {
    long = length-set table (a - 1) x ∙ so.long;
    at = λ i below inside.
        let activity =
        All-get_or (IsActivity (project_of list)) list.order n 0 there feasible.activities in
        let first =
        All-get_or (IsActivity (project_of list)) list.order i 0 inside feasible.activities in
        let long = so.long in
        elim (old_or_last i n below) [
          | inl before ↦
              let apart : activity_at list i - 1 ≢ a - 1 = λ e.
              feasible.once i n 0 before there (omega (arith, e, is, first, activity)) in
              get_or-set_other table (a - 1) (activity_at list i - 1) x 0 apart
              ∙ so.at i before inside
          | inr e ↦
              let same : activity_at list i - 1 ≡ a - 1 =
              ap (λ k. activity_at list k - 1) e ∙ ap (λ k. k - 1) (sym is) in
              ap (λ k. slice_index (slice_set table (a - 1) x) k) same
              ∙ (get_or-set_same table (a - 1) x 0
              (omega (arith, long, feasible.count, activity, is)) ∙ (gives ∙ ap value (sym e)))
        ];
  }

  -- once all positions are there, each activity has the entry of its position
  pub filled_at : (table : List ℕ) (k : ℕ) → IsFilled list value (count list) table → k < count list
      → (i : ℕ) × (i < count list) × (activity_at list i ≡ k + 1) × (slice_index table k ≡ value i)
  filled_at table k all below =
      let number : IsActivity (project_of list) (k + 1) =
      (omega arith, omega (arith, feasible.count)) in
      let found = place_in_feasible_list (project_of list) list.order (k + 1) feasible number in
      let name : activity_at list found.0 ≡ k + 1 = found.2 in
      let here : activity_at list found.0 - 1 ≡ k = omega (arith, name) in (
        found.0,
        found.1,
        name,
        ap (λ j. slice_index table j) (sym here) ∙ all.at found.0 found.1 found.1,
      )

-- the table of positions, once it is filled
pub places_are : (list : Listing) (places : List ℕ) → IsFeasibleList (project_of list) list.order
    → IsFilled list (λ i. i) (count list) places → ArePlaces list places
places_are list places feasible all =
    let long = all.long in
    record {
      long = long;
      within = λ k below.
          let found = filled_at list feasible (λ i. i) places k all (omega (arith, long, below)) in
          let there = found.1 in
          let is = found.3 in
          omega (arith, there, is);
      at = λ k below.
          let found = filled_at list feasible (λ i. i) places k all (omega (arith, long, below)) in
          ap (λ p. activity_at list p) found.3 ∙ found.2;
    }
