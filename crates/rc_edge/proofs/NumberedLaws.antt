-- Activities and resources by number, from 1 on, as loops come along them.
use Rattle.std.proofs.Common.{◌≡◌, ℕ, zero, suc, ◌+◌, ◌-◌, ◌^◌, ◌<◌, ◌≤◌, List, [], ◌∷◌, ◌++◌, length, map, take, get_or, refl, sym, ap, subst, ◌∙◌, inl, inr, arith, All}
use Rattle.std.specs.List.{range_with_len}
use Rattle.std.proofs.lemmas.Bool.{cases_lt}
use Rattle.std.proofs.lemmas.List.{take_more}
use Rattle.std.proofs.lemmas.List.Elements.{All-nil, All-cons, All-map, All-from_get_or}
use Rattle.std.proofs.lemmas.List.FromFn.{map-range_with_len_more}
use Rattle.std.proofs.lemmas.List.Sums.{sum_by-cons}
use Rattle.rc_instance.specs.Lists.{numbers, IsUpTo}
use Rattle.rc_instance.specs.Project.{Project, IsActivity, IsResource, activity_count, resource_count, duration_sum, capacity, duration, demand, successors_of}
use Rattle.rc_instance.specs.Calendar.{IsWithinLimits}
use Rattle.rc_instance.proofs.LimitLaws.{rising_length, successors_are}
use Rattle.rc_instance.proofs.ListLaws.{length-numbers, get_or-numbers}
use Rattle.rc_instance.proofs.OrderLaws.{sum_by-duration-le}
use Rattle.rc_edge.specs.Written.{demands_of, HasSmallDemandsAt}

-- a range with one number more
pub range_more : (a n : ℕ) → range_with_len a (n + 1) ≡ range_with_len a n ++ (a + n) ∷ []
range_more a zero = let same : a + 0 ≡ a = omega arith in rw same refl
range_more a (suc n) =
    let one_more : suc n + 1 ≡ suc (n + 1) = omega arith in
    let past : a + 1 + n ≡ a + suc n = omega arith in
    ap (range_with_len a) one_more ∙ ap (λ xs. a ∷ xs) (range_more (a + 1) n ∙ rw past refl)

-- the numbers up to k are those before k, and k
pub numbers_more : (k : ℕ) → 1 ≤ k → numbers (k + 1 - 1) ≡ numbers (k - 1) ++ k ∷ []
numbers_more k some =
    let next : k + 1 - 1 ≡ k - 1 + 1 = omega arith in
    let last : 1 + (k - 1) ≡ k = omega arith in
    ap numbers next ∙ range_more 1 (k - 1) ∙ rw last refl

-- what a function gives of the numbers up to k is what it gives of those before k, and of k
pub map-numbers_more : {X : Type 0} (f : ℕ → X) (k : ℕ) → 1 ≤ k
    → map f (numbers (k + 1 - 1)) ≡ map f (numbers (k - 1)) ++ f k ∷ []
map-numbers_more f k some =
    let next : k + 1 - 1 ≡ k - 1 + 1 = omega arith in
    ap (λ n. map f (numbers n)) next ∙ map-range_with_len_more f 1 (k - 1) k (omega arith)

-- the capacities up to resource k are those before it, and its own
pub capacities_more : (project : Project) (k : ℕ) → IsResource project k
    → take (k - 1) project.capacities ++ capacity project k ∷ [] ≡ take (k + 1 - 1)
    project.capacities
unfolding capacity
capacities_more project k is =
    let next : k + 1 - 1 ≡ k - 1 + 1 = omega arith in
    sym (ap (λ n. take n project.capacities) next ∙ take_more project.capacities (k - 1) 0
    (omega arith))

-- what holds of each number from 1 on below a, and of a, holds below the next number
pub holds_more : (P : ℕ → Type 0) (a : ℕ) → ((b : ℕ) → 1 ≤ b → b < a → P b) → P a → (b : ℕ) → 1 ≤ b
    → b < a + 1 → P b
holds_more P a before here b some below =
    elim (cases_lt b a) as (λ _. P b) [
      | inl lt ↦ before b some lt
      | inr le ↦ let same : a ≡ b = omega arith in subst P same here
    ]

-- the numbers from 1 to n
pub numbers_are : (n : ℕ) → All (IsUpTo n) (numbers n)
numbers_are n =
    All-from_get_or (IsUpTo n) (numbers n) 0
    (λ i h. (
      omega (arith, get_or-numbers n i 0, length-numbers n),
      omega
          (arith, get_or-numbers n i 0, length-numbers n),
    ))

-- numbers that fit 32 bits
abbrev pub AreSmall : List ℕ → Type 0
AreSmall numbers = All (λ n. n < 2 ^ 32) numbers

-- so do the demands of an activity
pub small_demands : (project : Project) (a : ℕ) → HasSmallDemandsAt project a
    → AreSmall (demands_of project a)
small_demands project a small =
    All-map (λ n. n < 2 ^ 32) (demand project a) (numbers (resource_count project))
    (λ i d h. small (get_or (numbers (resource_count project)) i d)
    (numbers_are (resource_count project) i d h))

-- a duration is at most the sum of all
pub duration-le-sum : (project : Project) (a : ℕ) → IsActivity project a
    → duration project a ≤ duration_sum project
duration-le-sum project a is =
    omega (
      arith,
      sum_by-cons (duration project) a [],
      sum_by-duration-le project (a ∷ [])
          (All-cons (IsActivity project) a [] is (All-nil (IsActivity project)))
          (λ i j d lt h. absurd (omega arith)),
    )

-- so do the successors of an activity, and their count
pub small_successors : (project : Project) (a : ℕ) → IsWithinLimits project → IsActivity project a
    → AreSmall (successors_of project a) × (length (successors_of project a) < 2 ^ 32)
small_successors project a limits is =
    let are = successors_are project a limits is in
    let many = rising_length (activity_count project) (successors_of project a) are in (
      λ i d h. omega (arith, (are.within i d h).1, limits.activities),
      omega
          (arith, many, limits.activities),
    )
