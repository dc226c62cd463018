-- When a removal shows that there is no cycle, and when it shows one.
use Rattle.std.proofs.Common.{◌≡◌, ◌≢◌, ℕ, ◌-◌, Bool, true, false, Option, Some, None, List, [], ◌∷◌, length, get_or, nat_eq, cond, sym, refl, ap, ◌∙◌, inl, inr, arith, true≢false, unwrap_or}
use Rattle.std.specs.List.{All, AllPairs, Contains, find}
use Rattle.std.proofs.lemmas.Bool.{or_cases, eqb-true, not-false}
use Rattle.rc_instance.specs.Lists.{names, numbers}
use Rattle.rc_instance.specs.Project.{Project, activity_count, IsActivity}
use Rattle.rc_instance.specs.Order.{IsFeasibleList}
use Rattle.rc_instance.proofs.ListLaws.{length-numbers, get_or-numbers}
use Rattle.rc_instance.proofs.OrderLaws.{sum_by-distinct}
use Rattle.activity_net.specs.Tables.{is_unmarked}
use Rattle.activity_net.specs.Removal.{IsRemoval}
use Rattle.activity_net.specs.Ring.{stuck, first_stuck, least_stuck, shown_ring, shown_cycle}
use Rattle.std.specs.Option.{option_map}
use Rattle.activity_net.proofs.NameLaws.{contains_named}
use Rattle.activity_net.proofs.RemovalLaws.{ones, distinct_few}
use Rattle.activity_net.proofs.StuckLaws.{find_unmarked, named_numbers}

-- what a search finds passes, and where it finds nothing nothing does
pub find-some : (test : ℕ → Bool) (xs : List ℕ) (x : ℕ) → find test xs ≡ Some x → test x ≡ true
find-some test [] x found = Prim.absurd (cc)
find-some test (y ∷ ys) x found =
    elim (test y) as (λ b. test y ≡ b → cond b (Some y) (find test ys) ≡ Some x → test x ≡ true) [
      | true ↦ λ e h. let same : y ≡ x = cc in ap test (sym same) ∙ e
      | false ↦ λ e h. find-some test ys x h
    ] refl found

pub find-none : (test : ℕ → Bool) (xs : List ℕ) (x : ℕ) → find test xs ≡ None → names xs x ≡ true
    → test x ≡ false
find-none test [] x none named = Prim.absurd (true≢false (sym named))
find-none test (y ∷ ys) x none named =
    elim (test y) as (λ b. test y ≡ b → cond b (Some y) (find test ys) ≡ None → test x ≡ false) [
      | true ↦ λ e h. Prim.absurd (cc)
      | false ↦ λ e h.
          elim (or_cases (nat_eq y x) (names ys x) named) as (λ _. test x ≡ false) [
            | inl here ↦ ap test (sym (eqb-true y x here)) ∙ e
            | inr later ↦ find-none test ys x h later
          ]
    ] refl none

-- the numbers from 1 to n are activities, each once
numbers_are : (project : Project) → All (IsActivity project) (numbers (activity_count project))
numbers_are project = λ i d within.
    let n = activity_count project in
    let e = get_or-numbers n i d (omega (arith, length-numbers n)) in
    (omega arith, omega (arith, length-numbers n))

numbers_once : (n : ℕ) → AllPairs (λ a b. a ≢ b) (numbers n)
numbers_once n = λ i j d below within same.
    let e = get_or-numbers n i d (omega (arith, length-numbers n)) in
    let f = get_or-numbers n j d (omega (arith, length-numbers n)) in
    omega arith

-- where no activity is left, the order is a feasible list
pub IsFeasibleList-removal : (project : Project) (order : List ℕ) (removed : List Bool)
    → IsRemoval project order removed
    → find (is_unmarked removed) (numbers (activity_count project)) ≡ None
    → IsFeasibleList project order
IsFeasibleList-removal project order removed removal none =
    let n = activity_count project in
    let all : All (Contains order) (numbers n) = λ i d within.
    let is = numbers_are project i d within in
    let named = find-none (is_unmarked removed) (numbers n) (get_or (numbers n) i d) none
    (named_numbers n (get_or (numbers n) i d) is.0 is.1) in
    contains_named order (get_or (numbers n) i d)
    (sym (removal.shows.at (get_or (numbers n) i d) is.0 is.1)
    ∙ not-false (get_or removed (get_or (numbers n) i d - 1) false) named) in
    let few = distinct_few project order removal.beginning.activities removal.beginning.once in
    let many = sum_by-distinct (λ _. 1) (numbers n) order (numbers_once n) all in
    record {
      count = omega (arith, ones order, ones (numbers n), length-numbers n);
      activities = removal.beginning.activities;
      once = removal.beginning.once;
      after = removal.beginning.after;
    }

-- where one is left, the least such one is stuck
pub least_stuck-is : (project : Project) (order : List ℕ) (removed : List Bool) (start : ℕ)
    → IsRemoval project order removed
    → find (is_unmarked removed) (numbers (activity_count project)) ≡ Some start
    → (names (stuck project) start ≡ true) × (start ≡ least_stuck project)
unfolding first_stuck
least_stuck-is project order removed start removal found =
    let same = sym (find_unmarked project order removed (numbers (activity_count project)) removal
    (numbers_are project)) ∙ found in (
      find-some (names (stuck project)) (numbers (activity_count project)) start same,
      sym (ap (λ (o : Option ℕ). unwrap_or o 0) same),
    )

-- the search of the code, whose marks are those of the removal
pub searched : (project : Project) (order : List ℕ) (removed marks : List Bool) (found : Option ℕ)
    → IsRemoval project order removed
    → marks ≡ removed → found ≡ find (is_unmarked marks) (numbers (length marks))
    → find (is_unmarked removed) (numbers (activity_count project)) ≡ found
searched project order removed marks found removal same is =
    let long : length marks ≡ activity_count project = ap length same ∙ removal.shows.count in
    sym (is ∙ (ap (λ (n : ℕ). find (is_unmarked marks) (numbers n)) long
    ∙ ap (λ (ms : List Bool). find (is_unmarked ms) (numbers (activity_count project))) same))

-- the cycle that is shown hangs on whether an activity is left
pub shown_cycle-is : (project : Project) (order : List ℕ) (removed : List Bool) (found : Option ℕ)
    → IsRemoval project order removed
    → find (is_unmarked removed) (numbers (activity_count project)) ≡ found
    → shown_cycle project ≡ option_map (λ _. shown_ring project) found
unfolding shown_cycle
shown_cycle-is project order removed found removal is =
    ap (option_map (λ _. shown_ring project))
    (sym (find_unmarked project order removed (numbers (activity_count project)) removal
    (numbers_are project)) ∙ is)
