-- Lists within all limits have no fault.
use Rattle.std.proofs.Common.{◌≡◌, ℕ, suc, ◌+◌, ◌*◌, ◌≤◌, false, nat_eq, Option, None, List, [], ◌∷◌, length, refl, inl, inr, All, arith}
use Rattle.std.specs.List.{flat_map, sum}
use Rattle.std.proofs.lemmas.List.{length-append}
use Rattle.std.proofs.lemmas.Bool.{le-ltb, ne_eqb}
use Rattle.rc_instance.specs.declared.limits.TheConstants.{MAX_ACTIVITIES, MAX_RESOURCES, MAX_CAPACITY, MAX_DURATION_SUM}
use Rattle.rc_instance.specs.Lists.{IsUpTo}
use Rattle.rc_instance.specs.Parts.{first_fault, large_capacity, wild_successor, wild_successor_of}
use Rattle.rc_instance.specs.declared.parts.InstanceFault.{InstanceFault}
use Rattle.rc_instance.specs.declared.parts.InstanceFault.TheVariants.{Memory}
use Rattle.rc_instance.specs.Results.{RefusesOr}

All-rest : {X : Type 0} (P : X → Type 0) (x : X) (xs : List X) → All P (x ∷ xs) → All P xs
All-rest P x xs all k d inside = all (suc k) d (omega arith)

All-first : {X : Type 0} (P : X → Type 0) (x : X) (xs : List X) → All P (x ∷ xs) → P x
All-first P x xs all = all 0 x (omega arith)

no_large_capacity : (k : ℕ) (capacities : List ℕ) → All (λ c. c ≤ MAX_CAPACITY) capacities → large_capacity k capacities ≡ None
unfolding large_capacity
no_large_capacity k [] all = refl
no_large_capacity k (c ∷ cs) all =
    let small = le-ltb MAX_CAPACITY c (All-first (λ c. c ≤ MAX_CAPACITY) c cs all) in
    rw small (no_large_capacity (k + 1) cs (All-rest (λ c. c ≤ MAX_CAPACITY) c cs all))

no_wild_successor_of : (n a : ℕ) (list : List ℕ) → All (IsUpTo n) list → wild_successor_of n a list ≡ None
no_wild_successor_of n a [] all = refl
no_wild_successor_of n a (b ∷ bs) all =
    let here = All-first (IsUpTo n) b bs all in
    let some : nat_eq b 0 ≡ false = ne_eqb b 0 (λ zero_is. absurd (omega arith)) in
    let below = le-ltb n b here.1 in
    rw (some, below) (no_wild_successor_of n a bs (All-rest (IsUpTo n) b bs all))

no_wild_successor : (n a : ℕ) (lists : List (List ℕ)) → All (All (IsUpTo n)) lists → wild_successor n a lists ≡ None
unfolding wild_successor
no_wild_successor n a [] all = refl
no_wild_successor n a (list ∷ rest) all =
    rw (no_wild_successor_of n a list (All-first (All (IsUpTo n)) list rest all))
    (no_wild_successor n (a + 1) rest (All-rest (All (IsUpTo n)) list rest all))

pub no_fault : (capacities durations : List ℕ) (successors : List (List ℕ))
    → 1 ≤ length durations → length durations ≤ MAX_ACTIVITIES → length capacities ≤ MAX_RESOURCES
    → All (λ c. c ≤ MAX_CAPACITY) capacities → All (All (IsUpTo (length durations))) successors → sum durations ≤ MAX_DURATION_SUM
    → first_fault capacities durations successors ≡ None
unfolding first_fault
no_fault capacities durations successors some few resources small within short =
    let n = length durations in
    let some_is : nat_eq n 0 ≡ false = ne_eqb n 0 (λ zero_is. absurd (omega arith)) in
    rw (
      some_is,
      le-ltb MAX_ACTIVITIES n few,
      le-ltb MAX_RESOURCES (length capacities) resources,
      no_large_capacity 1 capacities small,
      no_wild_successor n 1 successors within,
      le-ltb MAX_DURATION_SUM (sum durations) short,
    ) refl

-- parts that pass no limit are refused for want of memory alone
pub only_memory : (first : Option InstanceFault) (fault : InstanceFault) → first ≡ None
    → RefusesOr Memory first fault → fault ≡ Memory
only_memory first fault none (inl refused) = absurd cc
only_memory first fault none (inr memory) = memory

-- so many numbers in all, where each thing has k
pub length-flat_map : {X : Type 0} (numbers : X → List ℕ) (k : ℕ) (things : List X) → All (λ x. length (numbers x) ≡ k) things
    → length (flat_map numbers things) ≡ length things * k
length-flat_map numbers k [] all = omega arith
length-flat_map {X = X} numbers k (x ∷ rest) all =
    let one : length (numbers x) ≡ k = all 0 x (omega arith) in
    let others = length-flat_map numbers k rest (All-rest (λ (x : X). length (numbers x) ≡ k) x rest all) in
    omega (arith, one, others, length-append (numbers x) (flat_map numbers rest))
