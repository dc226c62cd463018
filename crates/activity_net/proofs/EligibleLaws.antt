-- How a feasible list grows: what may be listed next.
use Rattle.std.proofs.Common.{◌≡◌, ℕ, zero, suc, ◌+◌, ◌<◌, ◌≤◌, Bool, true, false, not, Option, Some, None, List, [], ◌∷◌, ◌++◌, length, get_or, nat_eq, cond, sym, refl, ap, ◌∙◌, subst, arith, slice_index}
use Rattle.std.specs.List.{Contains, find}
use Rattle.std.proofs.lemmas.Bool.{both_ways, not-true, not-false, or_left, or_right}
use Rattle.std.proofs.lemmas.Bool.Decides.{nat_tests}
use Rattle.rc_instance.specs.Lists.{names}
use Rattle.rc_instance.specs.Project.{Project, activity_count, IsActivity, Precedes}
use Rattle.rc_instance.specs.Order.{IsFeasibleList}
use Rattle.rc_instance.proofs.OrderLaws.{feasible_list-before, place_in_feasible_list}
use Rattle.activity_net.specs.Network.{predecessors_of}
use Rattle.activity_net.specs.Laws.{IsEligible}
use Rattle.activity_net.proofs.NameLaws.{named_contains, contains_named, not_named}
use Rattle.activity_net.proofs.RemovalLaws.{named_predecessor, predecessor_named}
use Rattle.activity_net.proofs.NetLaws.{find-some, find-none}

-- what a search finds is in the list
found_named : (test : ℕ → Bool) (xs : List ℕ) (x : ℕ) → find test xs ≡ Some x → names xs x ≡ true
found_named test [] x found = Prim.absurd (cc)
found_named test (y ∷ ys) x found =
    elim (test y) as (λ b. cond b (Some y) (find test ys) ≡ Some x → names (y ∷ ys) x ≡ true) [
      | true ↦ λ h.
          let same : y ≡ x = cc in
          let here : nat_eq y x ≡ true = grind (arith, nat_tests) in
          or_left (nat_eq y x) (names ys x) here
      | false ↦ λ h. or_right (nat_eq y x) (names ys x) (found_named test ys x h)
    ] found

-- among what is not listed the first of a feasible list is eligible
eligible_up_to : (project : Project) (order listed : List ℕ) (bound place : ℕ)
    → IsFeasibleList project order → place < bound → place < length order
    → names listed (get_or order place 0) ≡ false → (a : ℕ) × IsEligible project listed a
eligible_up_to project order listed zero place list below within out = Prim.absurd (omega arith)
eligible_up_to project order listed (suc bound) place list below within out =
    let b = get_or order place 0 in
    let test = λ (p : ℕ). not (names listed p) in
    elim (find test (predecessors_of project b)) as
    (λ o. find test (predecessors_of project b) ≡ o → (a : ℕ) × IsEligible project listed a) [
      | None ↦ λ none. (
        b,
        record {
          activity = list.activities place 0 within;
          unlisted = λ h. both_ways (names listed b) out (named_contains listed b h);
          ready = λ p is before. contains_named listed p
              (not-false (names listed p) (find-none test (predecessors_of project b) p none
              (named_predecessor project p b is ∙ before)));
        },
      )
      | Some p ↦ λ some.
          let before = predecessor_named project p b
          (found_named test (predecessors_of project b) p some) in
          let free : names listed p ≡ false = not-true (names listed p)
          (find-some test (predecessors_of project b) p some) in
          let earlier = feasible_list-before project order place p list within before.0 before.1 in
          eligible_up_to project order listed bound earlier.0 list (omega (arith, earlier.1))
          (omega (arith, earlier.1))
          (subst (λ (a : ℕ). names listed a ≡ false) (sym earlier.2) free)
    ] refl

-- as long as an activity is left one is eligible
pub eligible_exists : (project : Project) (order listed : List ℕ) (left : ℕ)
    → IsFeasibleList project order → IsActivity project left
    → (Contains listed left → ⊥) → (a : ℕ) × IsEligible project listed a
eligible_exists project order listed left list activity out =
    let place = place_in_feasible_list project order left list activity in
    eligible_up_to project order listed (length order) place.0 list place.1 place.1
    (subst (λ (a : ℕ). names listed a ≡ false) (sym place.2) (not_named listed left out))
