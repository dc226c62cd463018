-- Tables with a place for each activity, filled in the order of a feasible list or against it.
use Rattle.std.proofs.Common.{◌≡◌, ◌≢◌, ℕ, suc, ◌+◌, ◌-◌, ◌<◌, ◌≤◌, max, List, [], ◌∷◌, length, set, take, map, sym, refl, ap, ◌∙◌, subst, inl, inr, arith, slice_index, get_or-set_same, get_or-set_other}
use Rattle.std.specs.List.{All, Contains}
use Rattle.std.proofs.lemmas.Bool.{cases_eq, cases_lt}
use Rattle.std.proofs.lemmas.List.{map_more, ext_get_or}
use Rattle.std.proofs.lemmas.List.Elements.{All-get_or, All-contains}
use Rattle.std.proofs.lemmas.List.FromFn.{length-map-range_with_len, get_or-map-range_with_len}
use Rattle.rc_instance.specs.Lists.{greatest, numbers}
use Rattle.rc_instance.specs.Project.{Project, activity_count, IsActivity, Precedes, duration, successors_of}
use Rattle.rc_instance.specs.Calendar.{IsWithinLimits}
use Rattle.rc_instance.specs.Order.{IsFeasibleList}
use Rattle.rc_instance.proofs.ListLaws.{greatest_push}
use Rattle.rc_instance.proofs.LimitLaws.{successors_are}
use Rattle.rc_instance.proofs.OrderLaws.{place_in_feasible_list, feasible_list-before}
use Rattle.activity_net.specs.Network.{predecessors_of}
use Rattle.time_windows.specs.Windows.{earliest_of, tail_of}
use Rattle.time_windows.proofs.GreatestLaws.{predecessor_is, successor_precedes}
use Rattle.time_windows.proofs.LongestLaws.{earliest_of-next, tail_of-next}

-- the greatest value over one more element of a list
pub greatest-map-more : (f : ℕ → ℕ) (xs : List ℕ) (i : ℕ) → i < length xs
    → greatest (map f (take (i + 1) xs))
    ≡ max (greatest (map f (take i xs))) (f (slice_index xs i))
greatest-map-more f xs i within =
    ap greatest (map_more f xs i 0 within)
    ∙ greatest_push (map f (take i xs)) (f (slice_index xs i))

-- functions that agree on the elements of a list have the same values over it
pub map-same : (f g : ℕ → ℕ) (xs : List ℕ) → ((x : ℕ) → Contains xs x → f x ≡ g x)
    → map f xs ≡ map g xs
map-same f g [] same = refl
map-same f g (x ∷ xs) same =
    rw (
      same x (0, omega arith, refl),
      map-same f g xs (λ y h. same y (suc h.0, omega (arith, h.1), h.2)),
    ) refl

-- the table has the values of the activities at the places from low on and before high
pub record ShowsPlaces (f : ℕ → ℕ) (order table : List ℕ) (low high : ℕ) : Type 0 where
  pub at : (place : ℕ) → low ≤ place → place < high
      → slice_index table (slice_index order place - 1) ≡ f (slice_index order place)

-- what it has once the value of the activity at place i is written
written : (f : ℕ → ℕ) (order table : List ℕ) (i place : ℕ)
    → All (λ a. (1 ≤ a) × (a ≤ length table)) order → i < length order → place < length order
    → (place ≢ i → slice_index table (slice_index order place - 1) ≡ f (slice_index order place))
    → slice_index (set table (slice_index order i - 1) (f (slice_index order i)))
    (slice_index order place - 1) ≡ f (slice_index order place)
written f order table i place inside within here shown =
    let a = slice_index order i in
    let b = slice_index order place in
    let ia = All-get_or (λ a. (1 ≤ a) × (a ≤ length table)) order i 0 within inside in
    let ib = All-get_or (λ a. (1 ≤ a) × (a ≤ length table)) order place 0 here inside in
    elim (cases_eq a b) [
      | inl same ↦
          subst (λ (n : ℕ). slice_index (set table (a - 1) (f a)) (n - 1) ≡ f n) same
          (get_or-set_same table (a - 1) (f a) 0 (omega arith))
      | inr ne ↦
          let apart : b - 1 ≢ a - 1 = omega arith in
          let other : place ≢ i = λ e. ne (ap (slice_index order) (sym e)) in
          get_or-set_other table (a - 1) (b - 1) (f a) 0 apart ∙ shown other
    ]

-- the next place, and the place before
pub ShowsPlaces-next : (f : ℕ → ℕ) (order table : List ℕ) (i : ℕ)
    → All (λ a. (1 ≤ a) × (a ≤ length table)) order → i < length order
    → ShowsPlaces f order table 0 i
    → ShowsPlaces f order (set table (slice_index order i - 1) (f (slice_index order i))) 0 (i + 1)
ShowsPlaces-next f order table i inside within shown = record {
  at = λ place from below. written f order table i place inside within (omega arith)
      (λ other. shown.at place from (omega arith));
}

pub ShowsPlaces-before : (f : ℕ → ℕ) (order table : List ℕ) (i : ℕ)
    → All (λ a. (1 ≤ a) × (a ≤ length table)) order → i < length order
    → ShowsPlaces f order table (i + 1) (length order)
    → ShowsPlaces f order (set table (slice_index order i - 1) (f (slice_index order i))) i
    (length order)
ShowsPlaces-before f order table i inside within shown = record {
  at = λ place from below. written f order table i place inside within below
      (λ other. shown.at place (omega arith) below);
}

-- a table that has the values at all places has them by number
pub ShowsPlaces-all : (f : ℕ → ℕ) (project : Project) (order table : List ℕ)
    → IsFeasibleList project order → length table ≡ activity_count project
    → ShowsPlaces f order table 0 (length order)
    → table ≡ map f (numbers (activity_count project))
ShowsPlaces-all f project order table list count shown =
    let n = activity_count project in
    ext_get_or 0 table (map f (numbers n)) (count ∙ sym (length-map-range_with_len f 1 n))
    (λ i within.
    let here = place_in_feasible_list project order (i + 1) list (omega arith, omega arith) in
    let back : i + 1 - 1 ≡ i = omega arith in
    subst (λ (k : ℕ). slice_index table k ≡ f (i + 1)) back
    (subst (λ (a : ℕ). slice_index table (a - 1) ≡ f a) here.2
    (shown.at here.0 (omega arith) here.1))
    ∙ sym (get_or-map-range_with_len f 1 n i (i + 1) 0 (omega arith) (omega arith)))

-- from the earliest starts of the activities before place i comes that of the one at place i
pub earliest_shown : (project : Project) (order table : List ℕ) (i : ℕ)
    → IsFeasibleList project order → i < length order
    → ShowsPlaces (earliest_of project) order table 0 i
    → greatest (map (λ p. slice_index table (p - 1) + duration project p)
    (predecessors_of project (slice_index order i)))
    ≡ earliest_of project (slice_index order i)
earliest_shown project order table i list within shown =
    let a = slice_index order i in
    let activity = All-get_or (IsActivity project) order i 0 within list.activities in
    ap greatest
    (map-same (λ p. slice_index table (p - 1) + duration project p)
    (λ p. earliest_of project p + duration project p) (predecessors_of project a)
    (λ p h.
    let is = predecessor_is project p a h in
    let before = feasible_list-before project order i p list within is.0 is.1 in
    subst (λ (q : ℕ). slice_index table (q - 1) + duration project q
    ≡ earliest_of project q + duration project q) before.2
    (ap (λ (t : ℕ). t + duration project (slice_index order before.0))
    (shown.at before.0 (omega arith) before.1))))
    ∙ sym (earliest_of-next project order a list activity)

-- a direct successor stands at a later place
feasible_list-after : (project : Project) (order : List ℕ) (i place : ℕ)
    → IsFeasibleList project order → i < length order → place < length order
    → Precedes project (slice_index order i) (slice_index order place) → i < place
feasible_list-after project order i place list within here before =
    let a = slice_index order i in
    let activity = All-get_or (IsActivity project) order i 0 within list.activities in
    let there = feasible_list-before project order place a list here activity before in
    elim (cases_lt i there.0) [
      | inl below ↦ absurd (list.once i there.0 0 below (omega (arith, there.1)) (sym there.2))
      | inr upto ↦ elim (cases_lt there.0 i) [
        | inl below ↦ absurd (list.once there.0 i 0 below within there.2)
        | inr from ↦ omega (arith, there.1)
      ]
    ]

-- from the tails of the activities after place i comes that of the one at place i
pub tail_shown : (project : Project) (order table : List ℕ) (i : ℕ) → IsWithinLimits project
    → IsFeasibleList project order → i < length order
    → ShowsPlaces (tail_of project) order table (i + 1) (length order)
    → duration project (slice_index order i)
    + greatest (map (λ b. slice_index table (b - 1)) (successors_of project (slice_index order i)))
    ≡ tail_of project (slice_index order i)
tail_shown project order table i limits list within shown =
    let a = slice_index order i in
    let activity = All-get_or (IsActivity project) order i 0 within list.activities in
    let values = map-same (λ b. slice_index table (b - 1)) (tail_of project)
    (successors_of project a)
    (λ b h.
    let is = All-contains (IsActivity project) (successors_of project a) b
    (successors_are project a limits activity).within h in
    let there = place_in_feasible_list project order b list is in
    let after = feasible_list-after project order i there.0 list within there.1
    (subst (Precedes project a) (sym there.2) (successor_precedes project a b h)) in
    subst (λ (q : ℕ). slice_index table (q - 1) ≡ tail_of project q) there.2
    (shown.at there.0 (omega arith) there.1)) in
    ap (λ xs. duration project a + greatest xs) values
    ∙ sym (tail_of-next project order a limits list activity)
