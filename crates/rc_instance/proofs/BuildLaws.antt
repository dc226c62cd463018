-- Parts that pass no limit make an instance within the limits.
use Rattle.std.proofs.Common.{◌≡◌, ℕ, ◌+◌, ◌*◌, ◌<◌, ◌≤◌, Bool, true, false, cond, nat_lt, ◌==◌, ◌||◌, Option, None, Some, List, [], ◌∷◌, length, map, get_or, refl, ◌∙◌, arith, All}
use Rattle.std.specs.List.{sum, find}
use Rattle.std.specs.Option.{option_map}
use Rattle.std.proofs.lemmas.Bool.Decides.{nat_tests}
use Rattle.std.proofs.lemmas.List.Elements.{All-cons, All-from_get_or}
use Rattle.std.proofs.lemmas.List.{length-map, get_or-map}
use Rattle.rc_instance.specs.declared.parts.InstanceFault.{InstanceFault}
use Rattle.rc_instance.specs.declared.parts.InstanceFault.TheVariants.{NoActivity, TooManyActivities, TooManyResources, CapacityTooLarge, SuccessorOutOfRange, TooLong}
use Rattle.rc_instance.specs.declared.limits.TheConstants.{MAX_ACTIVITIES, MAX_RESOURCES, MAX_CAPACITY, MAX_DURATION_SUM}
use Rattle.rc_instance.specs.Lists.{names, IsUpTo, IsRising}
use Rattle.rc_instance.specs.Calendar.{IsWithinLimits}
use Rattle.rc_instance.specs.Parts.{made, named_up_to, first_fault, large_capacity, wild_successor, wild_successor_of, long_sum}
use Rattle.rc_instance.proofs.ListLaws.{neither}
use Rattle.rc_instance.proofs.SetLaws.{numbers_that}

-- what is no `Some` is `None`
pub is_none : {X : Type 0} (o : Option X) → ((x : X) → o ≡ Some x → ⊥) → o ≡ None
is_none None h = refl
is_none (Some x) h = absurd (h x refl)

-- a test that gives no fault did not pass, and what comes after it gives none
pub no_fault : (b : Bool) (fault : InstanceFault) (rest : Option InstanceFault) → cond b (Some fault) rest ≡ None → (b ≡ false) × (rest ≡ None)
no_fault true fault rest e = absurd (cc)
no_fault false fault rest e = (refl, e)

-- no capacity is above the limit
capacities_within : (k : ℕ) (capacities : List ℕ) → large_capacity k capacities ≡ None → All (λ c. c ≤ MAX_CAPACITY) capacities
unfolding large_capacity
capacities_within k [] none = λ i d h. absurd (omega arith)
capacities_within k (c ∷ cs) none =
    let split = no_fault (nat_lt MAX_CAPACITY c) (CapacityTooLarge k c) (large_capacity (k + 1) cs) none in
    let here : c ≤ MAX_CAPACITY = grind (arith, nat_tests, split.0) in
    All-cons (λ d. d ≤ MAX_CAPACITY) c cs here (capacities_within (k + 1) cs split.1)

-- each successor of the list is a number from 1 to n
list_within : (n a : ℕ) (list : List ℕ) → wild_successor_of n a list ≡ None → All (IsUpTo n) list
list_within n a [] none = λ i d h. absurd (omega arith)
list_within n a (b ∷ bs) none =
    let wild = b == 0 || nat_lt n b in
    elim wild as (λ w. b == 0 || nat_lt n b ≡ w → option_map (λ x. SuccessorOutOfRange a x) (cond w (Some b) (find (λ x. x == 0 || nat_lt n x) bs)) ≡ None → All (IsUpTo n) (b ∷ bs)) [
      | true ↦ λ is found. absurd (cc)
      | false ↦ λ is found.
          let low : 1 ≤ b = grind (arith, nat_tests) in
          let high : b ≤ n = grind (arith, nat_tests) in
          All-cons (IsUpTo n) b bs (low, high) (list_within n a bs found)
    ] refl none

-- each successor of each list is a number from 1 to n
pub lists_within : (n a : ℕ) (lists : List (List ℕ)) → wild_successor n a lists ≡ None → All (All (IsUpTo n)) lists
unfolding wild_successor
lists_within n a [] none = λ i d h. absurd (omega arith)
lists_within n a (list ∷ rest) none =
    let split = neither (wild_successor_of n a list) (wild_successor n (a + 1) rest) none in
    All-cons (All (IsUpTo n)) list rest (list_within n a list split.0) (lists_within n (a + 1) rest split.1)

-- what parts keep that pass no limit
pub record KeepsLimits (capacities durations : List ℕ) (successors : List (List ℕ)) : Type 0 where
  pub some : 1 ≤ length durations
  pub activities : length durations ≤ MAX_ACTIVITIES
  pub resources : length capacities ≤ MAX_RESOURCES
  pub capacities_within : All (λ c. c ≤ MAX_CAPACITY) capacities
  pub successors_within : All (All (IsUpTo (length durations))) successors
  pub sum_within : sum durations ≤ MAX_DURATION_SUM

pub keeps_limits : (capacities durations : List ℕ) (successors : List (List ℕ)) → first_fault capacities durations successors ≡ None
    → KeepsLimits capacities durations successors
unfolding first_fault
keeps_limits capacities durations successors none =
    let n = length durations in
    let a = no_fault (n == 0) NoActivity _ none in
    let b = no_fault (nat_lt MAX_ACTIVITIES n) (TooManyActivities n) _ a.1 in
    let c = no_fault (nat_lt MAX_RESOURCES (length capacities)) (TooManyResources (length capacities)) _ b.1 in
    let d = neither (large_capacity 1 capacities) _ c.1 in
    let e = neither (wild_successor n 1 successors) (long_sum durations) d.1 in
    let f = no_fault (nat_lt MAX_DURATION_SUM (sum durations)) (TooLong (sum durations)) None e.1 in
    record {
      some = grind (arith, nat_tests, a.0);
      activities = grind (arith, nat_tests, b.0);
      resources = grind (arith, nat_tests, c.0);
      capacities_within = capacities_within 1 capacities d.0;
      successors_within = lists_within n 1 successors e.0;
      sum_within = grind (arith, nat_tests, f.0);
    }

-- their instance is within the limits
pub made_within : (capacities durations demands : List ℕ) (successors : List (List ℕ)) → KeepsLimits capacities durations successors
    → length successors ≡ length durations → length demands ≡ length durations * length capacities
    → IsWithinLimits (made capacities durations demands successors)
unfolding made
made_within capacities durations demands successors keeps lists shape =
    let n = length durations in
    record {
      some = keeps.some;
      activities = keeps.activities;
      resources = keeps.resources;
      capacities = keeps.capacities_within;
      demands = shape;
      successors = length-map successors (named_up_to n) ∙ lists;
      successor_lists = All-from_get_or (IsRising n) (map (named_up_to n) successors) []
          (λ i h. let inside : i < length successors = omega (arith, length-map successors (named_up_to n)) in
          rw (get_or-map (named_up_to n) successors i [] [] inside) (numbers_that n (names (get_or successors i []))));
      durations = keeps.sum_within;
      calendar = record {
        count = omega arith;
        within = λ i d h. absurd (omega arith);
        rising = λ i j d lt h. absurd (omega arith);
      };
    }
