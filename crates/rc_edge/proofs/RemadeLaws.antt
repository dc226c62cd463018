-- An instance is made again of its own numbers, read one after the other.
use Rattle.std.proofs.Common.{◌≡◌, ℕ, zero, suc, ◌+◌, ◌-◌, ◌*◌, ◌<◌, ◌≤◌, List, [], ◌∷◌, ◌++◌, length, map, take, drop, get_or, refl, sym, ap, ◌∙◌, arith, zero-add, append-nil, All}
use Rattle.std.specs.List.{flat_map}
use Rattle.std.proofs.Math.Seq.{take-add}
use Rattle.std.proofs.lemmas.Grind.{flat_map-append}
use Rattle.std.proofs.lemmas.List.{take_more, take_all, get_or-drop, length-drop}
use Rattle.std.proofs.lemmas.List.Elements.{All-head, All-tail}
use Rattle.std.proofs.lemmas.List.FromFn.{map-range_with_len_more}
use Rattle.rc_instance.specs.Lists.{numbers}
use Rattle.rc_instance.specs.Project.{Project, activity_count, resource_count, duration, demand, successors_of}
use Rattle.rc_instance.specs.Parts.{made, named_up_to}
use Rattle.rc_instance.specs.Calendar.{AreSuccessors, IsWithinLimits}
use Rattle.rc_instance.proofs.SetLaws.{set_is}
use Rattle.rc_edge.proofs.NumberedLaws.{range_more}

-- the elements at n places from a place on
pub read_from : {X : Type 0} (xs : List X) (place n : ℕ) (d : X) → place + n ≤ length xs
    → map (λ k. get_or xs (place + (k - 1)) d) (numbers n) ≡ take n (drop place xs)
read_from xs place zero d inside = refl
read_from xs place (suc n) d inside =
    let next : suc n ≡ n + 1 = omega arith in
    let last : n + 1 - 1 ≡ n = omega arith in
    let left : n < length (drop place xs) = omega (arith, length-drop place xs) in
    let before = read_from xs place n d (omega arith) in
    let more = map-range_with_len_more (λ k. get_or xs (place + (k - 1)) d) 1 n (n + 1)
    (omega arith) in
    ap (λ m. map (λ k. get_or xs (place + (k - 1)) d) (numbers m)) next ∙ more
    ∙ rw (before, last, ← get_or-drop place xs n d, next) (sym (take_more (drop place xs) n d left))

-- all elements
pub read_all : {X : Type 0} (xs : List X) (n : ℕ) (d : X) → n ≡ length xs
    → map (λ k. get_or xs (k - 1) d) (numbers n) ≡ xs
read_all xs n d all =
    simp zero-add at (read_from xs 0 n d (omega arith)) ∙ take_all n xs (omega arith)

-- the rows of a table, one after the other
rows : (xs : List ℕ) (width n : ℕ) → n * width ≤ length xs
    → flat_map (λ a. map (λ k. get_or xs ((a - 1) * width + (k - 1)) 0) (numbers width)) (numbers n)
    ≡ take (n * width) xs
rows xs width zero inside = let none : 0 * width ≡ 0 = omega arith in rw none refl
rows xs width (suc n) inside =
    let row = λ (a : ℕ). map (λ k. get_or xs ((a - 1) * width + (k - 1)) 0) (numbers width) in
    let next : suc n ≡ n + 1 = omega arith in
    let last : n + 1 - 1 ≡ n = omega arith in
    let wide : (n + 1) * width ≡ n * width + width = omega arith in
    let before : flat_map row (numbers n) ≡ take (n * width) xs = rows xs width n (omega arith) in
    let more : numbers (n + 1) ≡ numbers n ++ (n + 1) ∷ [] = range_more 1 n ∙ ap
    (λ m. numbers n ++ m ∷ []) (omega arith) in
    let here : row (n + 1) ≡ take width (drop (n * width) xs) = rw last
    (read_from xs (n * width) width 0 (omega arith)) in
    ap (λ m. flat_map row (numbers m)) next
    ∙ (ap (flat_map row) more
    ∙ (flat_map-append row (numbers n) ((n + 1) ∷ [])
    ∙ rw (before, here, append-nil (take width (drop (n * width) xs)), next, wide)
    (sym (take-add (n * width) width xs))))

-- the durations of the activities from 1 on are all durations
pub durations_are : (project : Project)
    → map (duration project) (numbers (activity_count project)) ≡ project.durations
unfolding duration
durations_are project = read_all project.durations (activity_count project) 0 refl

-- the demands of all activities, resource by resource, are all demands
pub demands_are : (project : Project) → IsWithinLimits project
    → flat_map (λ a. map (demand project a) (numbers (resource_count project)))
    (numbers (activity_count project)) ≡ project.demands
unfolding demand
demands_are project limits =
    rows project.demands (resource_count project) (activity_count project)
    (omega (arith, limits.demands))
    ∙ take_all _ project.demands (omega (arith, limits.demands))

-- the successors of all activities are all lists of successors
pub successors_are : (project : Project) → IsWithinLimits project
    → map (successors_of project) (numbers (activity_count project)) ≡ project.successors
unfolding successors_of
successors_are project limits =
    read_all project.successors (activity_count project) [] (sym limits.successors)

-- rising lists of activities have nothing to sort
sorted_already : (count : ℕ) (lists : List (List ℕ)) → All (AreSuccessors count) lists
    → map (named_up_to count) lists ≡ lists
sorted_already count [] are = refl
sorted_already count (list ∷ lists) are =
    let here = All-head (AreSuccessors count) list lists are in
    rw (
      ← set_is count list list here.rising (λ n h. h) (λ n h. h) here.within,
      sorted_already count lists (All-tail (AreSuccessors count) list lists are),
    )
    refl

-- of its own lists an instance is made again, without its calendar
pub made_again : (project : Project) → IsWithinLimits project
    → made project.capacities project.durations project.demands project.successors ≡ record project
    { changes = [] }
unfolding made
made_again project limits =
    rw (sorted_already (activity_count project) project.successors limits.successor_lists) refl
