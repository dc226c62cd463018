-- The instance of words has no misfit and no cycle, and is short.
use Rattle.std.proofs.Common.{◌≡◌, ℕ, ◌+◌, ◌-◌, ◌*◌, ◌<◌, ◌≤◌, true, List, [], length, map, get_or, sym, refl, ap, ◌∙◌, arith}
use Rattle.std.specs.List.{All}
use Rattle.std.proofs.lemmas.Bool.{and_parts}
use Rattle.std.proofs.lemmas.List.{get_or-map}
use Rattle.std.proofs.lemmas.List.FromFn.{length-map-range_with_len, get_or-map-range_with_len}
use Rattle.std.proofs.lemmas.List.Elements.{All-get_or}
use Rattle.rc_instance.specs.Lists.{names, numbers}
use Rattle.rc_instance.specs.Parts.{made, named_up_to}
use Rattle.rc_instance.specs.Project.{IsActivity, Precedes, precedes, successors_of, activity_count, demand, capacity, horizon}
use Rattle.rc_instance.specs.Misfit.{HasNoMisfit}
use Rattle.rc_instance.specs.Order.{IsCycle}
use Rattle.rc_instance.proofs.ListLaws.{get_or-le-greatest, greatest-le}
use Rattle.activity_net.proofs.NameLaws.{names_filter, contains_named}
use Rattle.activity_net.proofs.CycleLaws.{feasible_list-no_cycle}
use Rattle.trial_instance.specs.Trial.{trial_successors, capacities_of, durations_of, demands_of, successor_lists_of, project_of_words}
use Rattle.trial_instance.proofs.NumberLaws.{last_capacity-unchanged, last_change-unchanged, IsFeasibleList-numbers}
use Rattle.trial_instance.proofs.TrialLaws.{capacities_within, demands_within, length-durations, sum-durations-le, successor-above}

-- a number that is read from a list is at most what each of its numbers is
read-le : (m : ℕ) (xs : List ℕ) (i : ℕ) → All (λ x. x ≤ m) xs → get_or xs i 0 ≤ m
read-le m xs i all = omega (arith, get_or-le-greatest xs i, greatest-le xs m all)

-- no demand is above a capacity
pub words-fit : (n resources : ℕ) (words : List ℕ)
    → HasNoMisfit (project_of_words n resources words)
unfolding project_of_words made demand capacity
words-fit n resources words = record {
  fits = λ a k activity resource runs.
      let project = project_of_words n resources words in
      let place = (a - 1) * length (capacities_of resources words) + (k - 1) in
      let low = read-le 10 (demands_of n resources words) place (demands_within n resources words) in
      let high = All-get_or (λ c. (10 ≤ c) × (c ≤ 20)) (capacities_of resources words) (k - 1) 0
      (omega (arith, resource.0, resource.1)) (capacities_within resources words) in
      let last = last_capacity-unchanged project k refl in
      omega (arith, low, high.0, last);
}

-- a successor has a greater number
pub words-rise : (n resources : ℕ) (words : List ℕ) → 2 ≤ n → (a b : ℕ)
    → IsActivity (project_of_words n resources words) a
    → IsActivity (project_of_words n resources words) b
    → Precedes (project_of_words n resources words) a b → a < b
unfolding project_of_words made precedes successors_of
words-rise n resources words some a b first second precedes =
    let lists = successor_lists_of n resources words in
    let long = length-map-range_with_len (trial_successors n resources words) 1 n in
    let count = length-durations n resources words some in
    let named = named_up_to (length (durations_of n resources words)) in
    let list = trial_successors n resources words a in
    let there : get_or lists (a - 1) [] ≡ list =
    get_or-map-range_with_len (trial_successors n resources words) 1 n (a - 1) a []
    (omega (arith, first.0, first.1)) (omega (arith, first.0)) in
    let read : get_or (map named lists) (a - 1) [] ≡ named list =
    get_or-map named lists (a - 1) [] [] (omega (arith, first.0, first.1)) ∙ ap named there in
    let has : names (named list) b ≡ true = sym (ap (λ (xs : List ℕ). names xs b) read) ∙ precedes in
    let test = sym (names_filter (names list) (numbers (length (durations_of n resources words))) b)
    ∙ has in
    let in_list = (and_parts (names (numbers (length (durations_of n resources words))) b)
    (names list b) test).1 in
    (successor-above n resources words a b some (omega (arith, first.1)) (contains_named list b in_list)).0

-- so there is no cycle
pub words-no_cycle : (n resources : ℕ) (words ring : List ℕ) → 2 ≤ n
    → IsCycle (project_of_words n resources words) ring → ⊥
words-no_cycle n resources words ring some =
    let project = project_of_words n resources words in
    feasible_list-no_cycle project (numbers (activity_count project)) ring
    (IsFeasibleList-numbers project (words-rise n resources words some))

-- and all durations together are short
pub words-short : (n resources : ℕ) (words : List ℕ) → n ≤ 1000
    → horizon (project_of_words n resources words) ≤ 9980
unfolding project_of_words made
words-short n resources words few =
    let project = project_of_words n resources words in
    omega (arith, last_change-unchanged project refl, sum-durations-le n resources words few)
