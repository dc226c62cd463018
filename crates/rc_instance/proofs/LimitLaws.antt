-- What the limits of an instance say of its numbers.
use Rattle.std.proofs.Common.{◌≡◌, ℕ, zero, suc, max, ◌+◌, ◌-◌, ◌<◌, ◌≤◌, ◌&&◌, Bool, true, false, if◌then◌else◌, List, [], ◌∷◌, length, map, get_or, arith, nat_eq, All}
use Rattle.std.specs.List.{fold}
use Rattle.std.specs.List.Sorted.{IsStrictlyIncreasing}
use Rattle.std.proofs.lemmas.List.Elements.{All-head, All-tail, All-get_or}
use Rattle.rc_instance.specs.declared.change.Change.{Change}
use Rattle.rc_instance.specs.declared.limits.TheConstants.{MAX_CAPACITY, MAX_CHANGE_PERIOD}
use Rattle.rc_instance.specs.Lists.{IsRising, greatest}
use Rattle.rc_instance.specs.Project.{Project, IsActivity, IsResource, activity_count, capacity, capacity_by, last_change, successors_of}
use Rattle.rc_instance.specs.Calendar.{IsWithinLimits}

-- the running maximum of a list is its greatest number, or the first value where that is above
pub fold_max-is : {X : Type 0} (h : X → ℕ) (now : ℕ) (xs : List X) → fold (λ a x. max a (h x)) now xs ≡ max now (greatest (map h xs))
fold_max-is h now [] = omega arith
fold_max-is h now (x ∷ xs) = omega (arith, fold_max-is h (max now (h x)) xs)

-- a list of numbers within a bound has its greatest within it
pub greatest_map-le : {X : Type 0} (h : X → ℕ) (m : ℕ) (xs : List X) → All (λ x. h x ≤ m) xs → greatest (map h xs) ≤ m
greatest_map-le h m [] all = omega arith
greatest_map-le h m (x ∷ xs) all =
    let here : h x ≤ m = All-head (λ x. h x ≤ m) x xs all in
    let rest = greatest_map-le h m xs (All-tail (λ x. h x ≤ m) x xs all) in
    omega arith

-- changes to capacities within a bound keep a capacity within it
fold_capacity-le : (applies : Change → Bool) (now m : ℕ) (changes : List Change) → now ≤ m → All (λ (c : Change). c.capacity ≤ m) changes
    → fold (λ n change. if applies change then change.capacity else n) now changes ≤ m
fold_capacity-le applies now m [] within all = within
fold_capacity-le applies now m (c ∷ cs) within all =
    let here : c.capacity ≤ m = All-head (λ (c : Change). c.capacity ≤ m) c cs all in
    fold_capacity-le applies _ m cs
    (elim (applies c) as (λ b. (if b then c.capacity else now) ≤ m) [ true ↦ here | false ↦ within ])
    (All-tail (λ (c : Change). c.capacity ≤ m) c cs all)

-- each capacity is within the limit, before and after changes
pub capacity-le : (project : Project) (k : ℕ) → IsWithinLimits project → IsResource project k → capacity project k ≤ MAX_CAPACITY
unfolding capacity
capacity-le project k limits is = All-get_or (λ c. c ≤ MAX_CAPACITY) project.capacities (k - 1) 0 (omega arith) limits.capacities

pub capacity_by-le : (project : Project) (k : ℕ) (applies : Change → Bool) → IsWithinLimits project → IsResource project k → capacity_by project k applies ≤ MAX_CAPACITY
capacity_by-le project k applies limits is =
    fold_capacity-le (λ c. nat_eq c.resource k && applies c) _ MAX_CAPACITY project.changes (capacity-le project k limits is)
    (λ i d h. (limits.calendar.within i d h).capacity)

pub last_change-le : (project : Project) → IsWithinLimits project → last_change project ≤ MAX_CHANGE_PERIOD
unfolding last_change
last_change-le project limits =
    greatest_map-le (λ (c : Change). c.period) MAX_CHANGE_PERIOD project.changes (λ i d h. (limits.calendar.within i d h).period.1)

-- a rising list of positive numbers has at least k + 1 at place k
rising_at : (xs : List ℕ) (k : ℕ) → IsStrictlyIncreasing xs → All (λ x. 1 ≤ x) xs → k < length xs → k + 1 ≤ get_or xs k 0
rising_at xs zero rising all h = all 0 0 h
rising_at xs (suc k) rising all h =
    let before : k + 1 ≤ get_or xs k 0 = rising_at xs k rising all (omega arith) in
    let next : get_or xs k 0 < get_or xs (k + 1) 0 = rising k (omega arith) in
    let same : suc k ≡ k + 1 = omega arith in
    rw same (omega arith)

-- the successors of an activity are numbers of activities
pub successors_are : (project : Project) (a : ℕ) → IsWithinLimits project → IsActivity project a → IsRising (activity_count project) (successors_of project a)
unfolding successors_of
successors_are project a limits is =
    let inside : a - 1 < length project.successors = omega (arith, limits.successors) in
    All-get_or (IsRising (activity_count project)) project.successors (a - 1) [] inside limits.successor_lists

-- a rising list of numbers from 1 to n has at most n of them
pub rising_length : (n : ℕ) (xs : List ℕ) → IsRising n xs → length xs ≤ n
rising_length n [] are = omega arith
rising_length n (x ∷ xs) are =
    let last : length xs + 1 ≤ get_or (x ∷ xs) (length xs) 0 = rising_at (x ∷ xs) (length xs) are.rising (λ i d h. (are.within i d h).0) (omega arith) in
    let within : get_or (x ∷ xs) (length xs) 0 ≤ n = (are.within (length xs) 0 (omega arith)).1 in
    omega arith
