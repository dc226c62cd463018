-- What the instance of words keeps: all limits, rising precedence, and no misfit.
use Rattle.std.proofs.Common.{◌≡◌, ◌≢◌, ℕ, suc, ◌+◌, ◌-◌, ◌*◌, ◌%◌, ◌<◌, ◌≤◌, ◌⊎◌, ◌||◌, Bool, true, nat_eq, None, List, [], ◌∷◌, ◌++◌, length, map, take, replicate, get_or, slice_index, sym, refl, ap, ◌∙◌, subst, inl, inr, arith, length-append, if◌then◌else◌}
use Rattle.std.specs.List.{All, Contains, filter, flat_map, range_with_len, sum}
use Rattle.std.proofs.Math.Nat.{suc-mul}
use Rattle.std.proofs.lemmas.Bool.{cases_eq, eq-eqb, ne_eqb, eqb-true}
use Rattle.std.proofs.lemmas.List.{length-map, length-replicate, length-take-le, get_or_default}
use Rattle.std.proofs.lemmas.List.FromFn.{length-range_with_len, length-map-range_with_len, get_or-range_with_len}
use Rattle.std.proofs.lemmas.List.Elements.{All-nil, All-cons, All-append, All-map, All-replicate, All-filter, All-contains, All-from_get_or, filter_passes}
use Rattle.std.proofs.lemmas.List.Sums.{sum_by-le, sum_by-cons, sum_by-append}
use Rattle.rc_instance.specs.Lists.{IsUpTo, numbers}
use Rattle.rc_instance.specs.Parts.{first_fault, made}
use Rattle.rc_edge.proofs.PartsLaws.{no_fault, length-flat_map}
use Rattle.trial_instance.specs.Trial.{first_word, inner, trial_capacity, trial_duration, trial_demands, trial_predecessor, was_drawn, or_last, trial_successors, capacities_of, durations_of, demands_of, successor_lists_of}

-- each capacity is from 10 to 20
pub capacities_within : (resources : ℕ) (words : List ℕ)
    → All (λ c. (10 ≤ c) × (c ≤ 20)) (capacities_of resources words)
capacities_within resources words =
    All-map (λ c. (10 ≤ c) × (c ≤ 20)) trial_capacity (take resources words)
    (λ k d within. (omega arith, omega arith))

-- there is one for each resource
pub length-capacities : (resources : ℕ) (words : List ℕ) → resources ≤ length words
    → length (capacities_of resources words) ≡ resources
length-capacities resources words within =
    length-map (take resources words) trial_capacity ∙ length-take-le resources words within

-- each duration is at most 10
pub durations_within : (n resources : ℕ) (words : List ℕ)
    → All (λ t. t ≤ 10) (durations_of n resources words)
durations_within n resources words =
    let P = λ (t : ℕ). t ≤ 10 in
    let middle : All P (map (trial_duration resources words) (inner n)) =
    All-map P (trial_duration resources words) (inner n) (λ k d within. omega arith) in
    All-append P (0 ∷ map (trial_duration resources words) (inner n)) (0 ∷ [])
    (All-cons P 0 (map (trial_duration resources words) (inner n)) (omega arith) middle)
    (All-cons P 0 [] (omega arith) (All-nil P))

-- there is one for each activity
pub length-durations : (n resources : ℕ) (words : List ℕ) → 2 ≤ n
    → length (durations_of n resources words) ≡ n
length-durations n resources words some =
    omega (
      arith,
      length-append (0 ∷ map (trial_duration resources words) (inner n)) (0 ∷ []),
      length-map-range_with_len (trial_duration resources words) 2 (n - 2),
    )

-- together they are short
pub sum-durations-le : (n resources : ℕ) (words : List ℕ) → n ≤ 1000
    → sum (durations_of n resources words) ≤ 9980
sum-durations-le n resources words few =
    let middle = map (trial_duration resources words) (inner n) in
    let low = sum_by-le (λ t. t) 10 middle
    (All-map (λ t. t ≤ 10) (trial_duration resources words) (inner n) (λ k d within. omega arith)) in
    omega (
      arith,
      low,
      length-map-range_with_len (trial_duration resources words) 2 (n - 2),
      sum_by-append (λ (t : ℕ). t) (0 ∷ middle) (0 ∷ []),
      sum_by-cons (λ (t : ℕ). t) 0 middle,
      sum_by-cons (λ (t : ℕ). t) 0 [],
    )

-- demands for each of some things are at most 10
flat_within : (resources : ℕ) (words js : List ℕ)
    → All (λ d. d ≤ 10) (flat_map (trial_demands resources words) js)
flat_within resources words [] = All-nil _
flat_within resources words (j ∷ js) =
    All-append (λ d. d ≤ 10) (trial_demands resources words j)
    (flat_map (trial_demands resources words) js)
    (All-map (λ d. d ≤ 10) (λ k. slice_index words (first_word resources j + k) % 11)
    (range_with_len 1 resources) (λ k d within. omega arith)) (flat_within resources words js)

-- each demand is at most 10
pub demands_within : (n resources : ℕ) (words : List ℕ)
    → All (λ d. d ≤ 10) (demands_of n resources words)
demands_within n resources words =
    let P = λ (d : ℕ). d ≤ 10 in
    let zeros : All P (replicate resources 0) = All-replicate P resources 0 (omega arith) in
    let middle = flat_map (trial_demands resources words) (inner n) in
    All-append P (replicate resources 0 ++ middle) (replicate resources 0)
    (All-append P (replicate resources 0) middle zeros (flat_within resources words (inner n))) zeros

-- there is one for each activity and resource
pub length-demands : (n resources : ℕ) (words : List ℕ) → 2 ≤ n
    → length (demands_of n resources words) ≡ n * resources
length-demands n resources words some =
    let middle = flat_map (trial_demands resources words) (inner n) in
    let zeros = length-replicate {A = ℕ} resources 0 in
    let rows : length middle ≡ (n - 2) * resources =
    length-flat_map (trial_demands resources words) resources (inner n)
    (λ k d within. length-map-range_with_len _ 1 resources)
    ∙ ap (λ (m : ℕ). m * resources) (length-range_with_len 2 (n - 2)) in
    let all = length-append (replicate resources 0 ++ middle) (replicate resources 0) in
    let front = length-append (replicate resources 0) middle in
    let m = n - 2 in
    let whole : n ≡ suc (suc m) = omega arith in
    let split : n * resources ≡ m * resources + resources + resources =
    ap (λ (k : ℕ). k * resources) whole ∙ (suc-mul (suc m) resources
    ∙ ap (λ (x : ℕ). x + resources) (suc-mul m resources)) in
    omega arith

-- the inner activities are from 2 on and before the last
inner_within : (n : ℕ) → 2 ≤ n → All (λ j. (2 ≤ j) × (j < n)) (inner n)
inner_within n some = All-from_get_or (λ j. (2 ≤ j) × (j < n)) (inner n) 0
    (λ i within.
    let long = length-range_with_len 2 (n - 2) in
    let inside : i < n - 2 = omega arith in
    let at = get_or-range_with_len 2 (n - 2) i 0 inside in
    (omega arith, omega arith))

-- what was drawn as a predecessor has a lower number
drawn-below : (resources : ℕ) (words : List ℕ) (a j : ℕ) → 2 ≤ j
    → was_drawn resources words a j ≡ true → a < j
unfolding was_drawn
drawn-below resources words a j from drawn =
    let first = trial_predecessor resources words j 1 in
    let second = trial_predecessor resources words j 2 in
    elim (cases_eq first a) [
      | inl is ↦ omega arith
      | inr differ ↦
          let off = ne_eqb first a differ in
          let on : nat_eq second a ≡ true =
          sym (ap (λ (b : Bool). b || nat_eq second a) off) ∙ drawn in
          let is = eqb-true second a on in
          omega arith
    ]

-- what is in such a list was drawn, or is the last activity of another
or_last-cases : (n a : ℕ) (js : List ℕ) (b : ℕ) → Contains (or_last n a js) b
    → Contains js b ⊎ ((b ≡ n) × (a ≢ n))
or_last-cases n a [] b has =
    elim (cases_eq a n) [
      | inl same ↦
          let none : or_last n a [] ≡ [] =
          ap (λ (t : Bool). if t then [] else n ∷ []) (eq-eqb a n same) in
          let empty = subst (λ (xs : List ℕ). Contains xs b) none has in
          absurd (omega (arith, empty.1))
      | inr differ ↦
          let one : or_last n a [] ≡ n ∷ [] =
          ap (λ (t : Bool). if t then [] else n ∷ []) (ne_eqb a n differ) in
          inr (
            All-contains (λ x. x ≡ n) (n ∷ []) b
                (All-cons (λ x. x ≡ n) n [] refl (All-nil (λ x. x ≡ n)))
                (subst (λ (xs : List ℕ). Contains xs b) one has),
            differ,
          )
    ]
or_last-cases n a (j ∷ js) b has = inl has

-- a successor has a greater number
pub successor-above : (n resources : ℕ) (words : List ℕ) (a b : ℕ) → 2 ≤ n → a ≤ n
    → Contains (trial_successors n resources words a) b → (a < b) × (2 ≤ b) × (b ≤ n)
unfolding trial_successors
successor-above n resources words a b some upto has =
    let js = filter (was_drawn resources words a) (inner n) in
    elim (or_last-cases n a js b has) [
      | inl drawn ↦
          let place = All-contains (λ j. (2 ≤ j) × (j < n)) js b
          (All-filter (was_drawn resources words a) (λ j. (2 ≤ j) × (j < n)) (inner n)
          (inner_within n some)) drawn in
          let test = All-contains (λ j. was_drawn resources words a j ≡ true) js b
          (filter_passes (was_drawn resources words a) (inner n)) drawn in
          (drawn-below resources words a b place.0 test, place.0, omega (arith, place.1))
      | inr last ↦
          let differ = last.1 in
          let is = last.0 in
          (omega arith, omega arith, omega arith)
    ]

-- so all successors are activities
pub successors_within : (n resources : ℕ) (words : List ℕ) → 2 ≤ n
    → All (All (IsUpTo n)) (successor_lists_of n resources words)
successors_within n resources words some =
    All-map (All (IsUpTo n)) (trial_successors n resources words) (numbers n)
    (λ k d within i e inside.
    let a = get_or (numbers n) k d in
    let long = length-range_with_len 1 n in
    let at : a ≡ 1 + k = get_or-range_with_len 1 n k d (omega arith) in
    let list = trial_successors n resources words a in
    let b = get_or list i e in
    let h = successor-above n resources words a b some (omega arith) (i, inside, get_or_default list i b e inside) in
    (omega (arith, h.1), h.2))

-- the lists pass no limit
pub no-fault : (n resources : ℕ) (words : List ℕ) → 2 ≤ n → n ≤ 1000 → resources ≤ 16
    → resources ≤ length words
    → first_fault (capacities_of resources words) (durations_of n resources words)
    (successor_lists_of n resources words) ≡ None
no-fault n resources words some few kinds within =
    let count = length-durations n resources words some in
    let caps = length-capacities resources words within in
    no_fault (capacities_of resources words) (durations_of n resources words)
    (successor_lists_of n resources words) (omega arith) (omega arith) (omega arith)
    (λ k d inside. let h = capacities_within resources words k d inside in omega (arith, h.1))
    (subst (λ (m : ℕ). All (All (IsUpTo m)) (successor_lists_of n resources words)) (sym count)
    (successors_within n resources words some))
    (omega (arith, sum-durations-le n resources words few))

-- equal lists make one instance
pub made-same : (c d : List ℕ) (t u : List ℕ) (e f : List ℕ) (s r : List (List ℕ)) → c ≡ d → t ≡ u
    → e ≡ f → s ≡ r → made c t e s ≡ made d u f r
made-same c d t u e f s r p q v w = λ i. made (p i) (q i) (v i) (w i)
