-- Orders of activities: permutations, sums over distinct activities, feasible lists.
use Rattle.std.proofs.Common.{◌≡◌, ◌≢◌, ℕ, suc, ◌+◌, ◌-◌, ◌<◌, ◌≤◌, List, [], ◌∷◌, length, get_or, take, map, sum, sym, ap, ◌∙◌, subst, arith, get_or-take, slice_index}
use Rattle.std.specs.List.{All, AllPairs, Contains, sum_by, remove}
use Rattle.std.specs.List.Sorted.{IsPermutation}
use Rattle.std.proofs.lemmas.List.{nil_from_length, ext_get_or, get_or_default, length-take}
use Rattle.std.proofs.lemmas.List.Edits.{length-remove}
use Rattle.std.proofs.lemmas.List.Elements.{All-head, All-tail, All-weaker}
use Rattle.std.proofs.lemmas.List.FromFn.{length-map-range_with_len, get_or-map-range_with_len}
use Rattle.std.proofs.lemmas.List.Sorted.{IsPermutation-refl, IsPermutation-sym, IsPermutation-cons, IsPermutation-trans, IsPermutation-remove, Contains-permutation, sum_by-IsPermutation}
use Rattle.std.proofs.lemmas.List.Sums.{sum-map, sum_by-cons}
use Rattle.std.proofs.lemmas.Map.Made.{Contains-tail}
use Rattle.rc_instance.specs.Lists.{numbers}
use Rattle.rc_instance.specs.Project.{Project, activity_count, IsActivity, duration, duration_sum, Precedes}
use Rattle.rc_instance.specs.Order.{IsFeasibleList}
use Rattle.rc_instance.proofs.ListLaws.{length-numbers, get_or-numbers}

-- the first of distinct numbers is none of the others, and they are distinct
distinct_head : (x : ℕ) (xs : List ℕ) → AllPairs (λ a b. a ≢ b) (x ∷ xs) → All (λ y. x ≢ y) xs
distinct_head x xs once = λ k d within. once 0 (suc k) d (omega arith) (omega arith)

distinct_tail : (x : ℕ) (xs : List ℕ) → AllPairs (λ a b. a ≢ b) (x ∷ xs)
    → AllPairs (λ a b. a ≢ b) xs
distinct_tail x xs once = λ i j d below within. once (suc i) (suc j) d (omega arith) (omega arith)

-- the first numbers of distinct numbers are distinct
pub AllPairs-take : (n : ℕ) (xs : List ℕ) → AllPairs (λ a b. a ≢ b) xs
    → AllPairs (λ a b. a ≢ b) (take n xs)
AllPairs-take n xs once = λ i j d below within.
    let e = length-take n xs in
    rw (get_or-take n xs i d (omega arith), get_or-take n xs j d (omega arith))
    (once i j d below (omega arith))

-- what else contains is left without x
contains_others : (x : ℕ) (xs ys : List ℕ) (k : ℕ) → k < length ys → get_or ys k x ≡ x
    → All (λ y. x ≢ y) xs → All (Contains ys) xs → All (Contains (remove ys k)) xs
contains_others x xs ys k within at others all = λ i d below.
    Contains-tail x (remove ys k) (get_or xs i d) (others i d below)
    (Contains-permutation ys (x ∷ remove ys k) (get_or xs i d)
    (IsPermutation-remove ys k x within (sym at)) (all i d below))

-- distinct numbers that a list contains, and as many as it has, are that list in another order
pub IsPermutation-from_distinct : (xs ys : List ℕ) → AllPairs (λ a b. a ≢ b) xs
    → length ys ≤ length xs
    → All (Contains ys) xs → IsPermutation xs ys
IsPermutation-from_distinct [] ys once count all =
    subst (IsPermutation []) (sym (nil_from_length ys (omega arith))) (IsPermutation-refl [])
IsPermutation-from_distinct (x ∷ xs) ys once count all =
    let here = All-head (Contains ys) x xs all in
    let rest = contains_others x xs ys here.0 here.1 here.2 (distinct_head x xs once)
    (All-tail (Contains ys) x xs all) in
    let fewer = length-remove ys here.0 here.1 in
    IsPermutation-trans (x ∷ xs) (x ∷ remove ys here.0) ys
    (IsPermutation-cons x xs (remove ys here.0)
    (IsPermutation-from_distinct xs (remove ys here.0) (distinct_tail x xs once)
    (omega arith) rest))
    (IsPermutation-sym ys (x ∷ remove ys here.0)
    (IsPermutation-remove ys here.0 x here.1 (sym here.2)))

-- a sum over distinct numbers that a list contains is at most the sum over the list
pub sum_by-distinct : (f : ℕ → ℕ) (xs ys : List ℕ) → AllPairs (λ a b. a ≢ b) xs
    → All (Contains ys) xs
    → sum_by f xs ≤ sum_by f ys
sum_by-distinct f [] ys once all = omega arith
sum_by-distinct f (x ∷ xs) ys once all =
    let here = All-head (Contains ys) x xs all in
    let rest = contains_others x xs ys here.0 here.1 here.2 (distinct_head x xs once)
    (All-tail (Contains ys) x xs all) in
    let moved = IsPermutation-remove ys here.0 x here.1 (sym here.2) in
    omega (
      arith,
      sum_by-IsPermutation f ys (x ∷ remove ys here.0) moved,
      sum_by-cons f x (remove ys here.0),
      sum_by-cons f x xs,
      sum_by-distinct f xs (remove ys here.0) (distinct_tail x xs once) rest,
    )

-- the numbers from 1 to n contain each of them
pub Contains-numbers : (n a : ℕ) → 1 ≤ a → a ≤ n → Contains (numbers n) a
Contains-numbers n a from upto = (
  a - 1,
  omega (arith, length-numbers n),
  let e = get_or-numbers n (a - 1) a (omega arith) in
      omega arith,
)

-- an order that names each of the numbers from 1 to n once is a permutation of them
pub IsPermutation-numbers : (order : List ℕ) (n : ℕ) → length order ≡ n
    → All (λ a. (1 ≤ a) × (a ≤ n)) order
    → AllPairs (λ a b. a ≢ b) order → IsPermutation order (numbers n)
IsPermutation-numbers order n count all once =
    IsPermutation-from_distinct order (numbers n) once (omega (arith, length-numbers n))
    (All-weaker (λ a. (1 ≤ a) × (a ≤ n)) (Contains (numbers n))
    (λ a h. Contains-numbers n a h.0 h.1) order all)

-- the durations are those of the numbers from 1 on
durations_by_number : (project : Project)
    → map (duration project) (numbers (activity_count project)) ≡ project.durations
unfolding duration
durations_by_number project =
    let n = activity_count project in
    let count = length-map-range_with_len (duration project) 1 n in
    ext_get_or 0 _ project.durations count
    (λ i within. get_or-map-range_with_len (duration project) 1 n i (i + 1) 0 (omega arith)
    (omega arith)
    ∙ ap (λ k. get_or project.durations k 0) (omega arith))

-- distinct activities take together at most the sum of all durations
pub sum_by-duration-le : (project : Project) (order : List ℕ) → All (IsActivity project) order
    → AllPairs (λ a b. a ≢ b) order → sum_by (duration project) order ≤ duration_sum project
sum_by-duration-le project order activities once =
    let n = activity_count project in
    let all = All-weaker (IsActivity project) (Contains (numbers n))
    (λ a h. Contains-numbers n a h.0 h.1) order activities in
    let e : sum_by (duration project) (numbers n) ≡ duration_sum project =
    sym (sum-map (duration project) (numbers n)) ∙ ap sum (durations_by_number project) in
    omega (arith, sum_by-distinct (duration project) order (numbers n) once all)

-- a feasible list is a permutation of the activities
pub IsPermutation-feasible_list : (project : Project) (order : List ℕ)
    → IsFeasibleList project order
    → IsPermutation order (numbers (activity_count project))
IsPermutation-feasible_list project order list =
    IsPermutation-numbers order (activity_count project) list.count list.activities list.once

-- each activity has its place in a feasible list
pub place_in_feasible_list : (project : Project) (order : List ℕ) (a : ℕ)
    → IsFeasibleList project order
    → IsActivity project a → (place : ℕ) × (place < length order) × (slice_index order place ≡ a)
place_in_feasible_list project order a list activity =
    let n = activity_count project in
    let h = Contains-permutation (numbers n) order a
    (IsPermutation-sym order (numbers n) (IsPermutation-feasible_list project order list))
    (Contains-numbers n a activity.0 activity.1) in
    (h.0, h.1, get_or_default order h.0 0 a h.1 ∙ h.2)

-- and each of its direct predecessors has a place before it
pub feasible_list-before : (project : Project) (order : List ℕ) (place a : ℕ)
    → IsFeasibleList project order
    → place < length order → IsActivity project a → Precedes project a (slice_index order place)
    → (before : ℕ) × (before < place) × (slice_index order before ≡ a)
feasible_list-before project order place a list within activity precedes =
    let h = list.after place a within activity precedes in
    let e = length-take place order in
    let below : h.0 < place = omega arith in (
      h.0,
      below,
      get_or_default order h.0 0 a (omega arith)
          ∙ (sym (get_or-take place order h.0 a below) ∙ h.2),
    )
