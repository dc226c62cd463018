-- Tables of packed words, filled place by place.
use Rattle.std.proofs.Common.{◌≡◌, ◌≢◌, ℕ, ◌+◌, ◌*◌, ◌/◌, ◌%◌, ◌<◌, inl, inr, List, [], length, slice_index, slice_set, refl, sym, ap, ap₂, subst, subst₂, ◌∙◌, arith, length-set, get_or-set_same, get_or-set_other}
use Rattle.std.proofs.lemmas.Nat.{div-mul-add, mod-mul-add}
use Rattle.std.proofs.lemmas.List.{nil_from_length}
use Rattle.rc_instance.specs.Project.{Project, activity_count, resource_count, capacity_at}
use Rattle.rc_instance.specs.Order.{IsFeasibleList}
use Rattle.capacity_profile.specs.Lanes.{lane_of}
use Rattle.activity_net.specs.Network.{Listing}
use Rattle.book_rule.specs.Listed.{count, width, project_of, room}
use Rattle.book_rule.specs.Layout.{place}
use Rattle.book_rule.proofs.WordLaws.{place-inside}
use Rattle.book_table.specs.BookView.{IsNeed, AreNeeds, IsRoom}
use Rattle.book_table.proofs.FillLaws.{old_or_last}
use Rattle.book_table.proofs.NewLaws.{width_is}

-- of a table of so many entries the first n are right
pub record AreRight (right : ℕ → ℕ → Type 0) (size n : ℕ) (table : List ℕ) : Type 0 where
  pub long : length table ≡ size
  pub at : (k : ℕ) → k < n → k < size → right k (slice_index table k)

-- at first none need be right
pub right-none : (right : ℕ → ℕ → Type 0) (size : ℕ) (table : List ℕ) → length table ≡ size
    → AreRight right size 0 table
right-none right size table long =
    record { long = long; at = λ k below there. absurd (omega (arith, below)) }

-- one entry more
pub right_more : (right : ℕ → ℕ → Type 0) (size n x : ℕ) (table : List ℕ) → n < size
    → right n x → AreRight right size n table → AreRight right size (n + 1) (slice_set table n x)
right_more right size n x table there is so = record {
  long = length-set table n x ∙ so.long;
  at = λ k below inside.
      let long = so.long in
      elim (old_or_last k n below) [
        | inl before ↦
            let apart : k ≢ n = λ e. absurd (omega (arith, e, before)) in
            subst (λ y. right k y) (sym (get_or-set_other table n k x 0 apart))
            (so.at k before inside)
        | inr e ↦
            let here : slice_index (slice_set table n x) n ≡ x =
            get_or-set_same table n x 0 (omega (arith, long, there)) in
            subst (λ j. right j (slice_index (slice_set table n x) j)) (sym e)
            (subst (λ y. right n y) (sym here) is)
      ];
}

-- the number at place k of a table of needs is right
abbrev pub IsNeedAt : Listing → ℕ → ℕ → Type 0
IsNeedAt list k word = IsNeed list (k / width list) (k % width list) word

-- the row and the column of a place
pub row_of : (n p w : ℕ) → w < n → place n p w / n ≡ p
unfolding place
row_of n p w column = div-mul-add p n w column

pub column_of : (n p w : ℕ) → w < n → place n p w % n ≡ w
unfolding place
column_of n p w column = mod-mul-add p n w column

-- how many words the positions need
pub needs-long : (list : Listing) (project : Project) (positions resources : ℕ)
    → IsFeasibleList (project_of list) list.order → project ≡ project_of list
    → positions ≡ activity_count project → resources ≡ resource_count project
    → positions * ((resources + 3) / 4) ≡ place (width list) (count list) 0
unfolding place
needs-long list project positions resources feasible same count_is resources_are =
    let rows : positions ≡ count list =
    count_is ∙ (ap activity_count same ∙ sym feasible.count) in
    let columns = width_is list project resources same resources_are in
    ap₂ (λ n m. n * m) rows columns ∙ omega arith

-- a table of needs, once it is filled
pub needs_are : (list : Listing) (needs : List ℕ)
    → AreRight (IsNeedAt list) (place (width list) (count list) 0)
    (place (width list) (count list) 0) needs → AreNeeds list needs
needs_are list needs all = record {
  long = all.long;
  at = λ i w row column.
      let cell = place (width list) i w in
      let inside = place-inside (width list) (count list) i w column row in
      subst₂ (λ a b. IsNeed list a b (slice_index needs cell)) (row_of (width list) i w column)
      (column_of (width list) i w column) (all.at cell inside inside);
}

-- what a position needs stands at its place
pub need_at : (list : Listing) (needs : List ℕ) (n i w k : ℕ) → AreNeeds list needs
    → n ≡ width list → k ≡ place n i w → i < count list → w < width list
    → (k < length needs) × IsNeed list i w (slice_index needs k)
need_at list needs n i w k are columns is row column =
    let at : k ≡ place (width list) i w = is ∙ ap (λ m. place m i w) columns in
    let inside = place-inside (width list) (count list) i w column row in
    let long = are.long in (
      omega (arith, at, inside, long),
      subst (λ j. IsNeed list i w (slice_index needs j)) (sym at) (are.at i w row column),
    )

-- where no capacity changes, there is as much in each period as in the first
pub room-fixed : (list : Listing) (w l p : ℕ) → length (project_of list).changes ≡ 0
    → room list w l 0 ≡ room list w l p
unfolding room capacity_at
room-fixed list w l p none =
    let empty : (project_of list).changes ≡ [] = nil_from_length (project_of list).changes none in
    rw (empty) refl

-- so that its words are those of every period
pub room_of_all : (list : Listing) (w word : ℕ) → length (project_of list).changes ≡ 0
    → ((l : ℕ) → l < 4 → lane_of word l ≡ room list w l 0) → IsRoom list w word
room_of_all list w word none lanes = λ l p below. lanes l below ∙ room-fixed list w l p none
