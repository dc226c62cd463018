-- Lists by rules as lists by keys.
use Rattle.std.proofs.Common.{Bool, ◌||◌, zero, suc, [], ◌∷◌, ◌++◌, ◌≡◌, ℕ, ◌+◌, ◌-◌, ◌^◌, ◌<◌, ◌≤◌, List, map, nat_le, length, sym, refl, ap, ◌∙◌, arith}
use Rattle.std.specs.List.{filter, list_any, sum_by}
use Rattle.std.proofs.lemmas.Bool.Decides.{nat_tests}
use Rattle.std.proofs.lemmas.List.{map_push}
use Rattle.std.proofs.lemmas.List.Elements.{All-cons}
use Rattle.std.proofs.lemmas.List.Sums.{sum_by-cons, length-filter, count_by-le-length}
use Rattle.std.proofs.lemmas.List.FromFn.{get_or-map-range_with_len}
use Rattle.rc_instance.specs.Lists.{names, numbers}
use Rattle.rc_instance.specs.Project.{Project, activity_count, IsActivity, duration, duration_sum, precedes, successors_of}
use Rattle.rc_instance.specs.Calendar.{IsWithinLimits}
use Rattle.rc_instance.specs.declared.limits.TheConstants.{MAX_DURATION_SUM}
use Rattle.rc_instance.specs.Order.{IsFeasibleList}
use Rattle.rc_instance.proofs.LimitLaws.{successors_are, rising_length}
use Rattle.rc_instance.proofs.ListLaws.{length-numbers}
use Rattle.rc_instance.proofs.OrderLaws.{sum_by-duration-le}
use Rattle.activity_net.specs.Follows.{followers, followers_through, all_successors}
use Rattle.activity_net.proofs.NameLaws.{distinct_from_rising}
use Rattle.time_windows.proofs.ChainLaws.{IsChain-one}
use Rattle.time_windows.proofs.WindowLaws.{windows_fit}
use Rattle.priority_rules.specs.declared.rule.Rule.{Rule}
use Rattle.priority_rules.specs.declared.rule.Rule.TheVariants.{Number, Lft, Lst, Mts, Grpw}
use Rattle.priority_rules.specs.KeyList.{key_list, key_in, greatest_list, number_list}
use Rattle.priority_rules.specs.Rules.{rule_list, rule_key, turned, positional_weight, latest_finish}
use Rattle.priority_rules.proofs.NumberLaws.{choices-same, key_list-same, numbers_next}

-- greater values have lower keys
turns : (x y : ℕ) → x < 2 ^ 32 → y < 2 ^ 32 → nat_le (turned x) (turned y) ≡ nat_le y x
turns x y x_below y_below = grind (arith, nat_tests)

-- the list by greatest values is a list by keys
pub greatest_list-is : (project : Project) (value : ℕ → ℕ) → ((a : ℕ) → IsActivity project a
    → value a < 2 ^ 32)
    → key_list project (λ a. turned (value a)) ≡ greatest_list project value
unfolding key_list greatest_list
greatest_list-is project value below =
    choices-same project (λ a b. nat_le (turned (value a)) (turned (value b)))
    (λ a b. nat_le (value b) (value a))
    (λ a b is_a is_b. turns (value a) (value b) (below a is_a) (below b is_b))
    (activity_count project)

-- the direct successors of an activity take together at most the sum of all durations
pub successors-le : (project : Project) (a : ℕ) → IsWithinLimits project → IsActivity project a
    → sum_by (duration project) (successors_of project a) ≤ MAX_DURATION_SUM
successors-le project a limits is =
    let are = successors_are project a limits is in
    omega (
      arith,
      sum_by-duration-le project (successors_of project a) are.within (distinct_from_rising
          (successors_of project a) are.rising),
      limits.durations,
    )

-- a positional weight fits
weight-below : (project : Project) (a : ℕ) → IsWithinLimits project → IsActivity project a
    → positional_weight project a < 2 ^ 32
weight-below project a limits is =
    let alone : sum_by (duration project) (a ∷ []) ≤ duration_sum project =
    sum_by-duration-le project (a ∷ []) (All-cons (IsActivity project) a [] is
    (λ i d h. Prim.absurd (omega arith)))
    (λ i j d below within. Prim.absurd (omega arith)) in
    omega (
      arith,
      alone,
      sum_by-cons (duration project) a [],
      successors-le project a limits is,
      limits.durations,
    )

-- a filter keeps at most the whole list
length-filter_le : (test : ℕ → Bool) (xs : List ℕ) → length (filter test xs) ≤ length xs
length-filter_le test xs = omega (arith, length-filter test xs, count_by-le-length test xs)

-- at most all activities follow one through so many others
followers_through-le : (project : Project) (a m : ℕ) → IsWithinLimits project → IsActivity project a
    → length (followers_through project m a) ≤ activity_count project
unfolding followers_through
followers_through-le project a zero limits is = rising_length (activity_count project)
    (successors_of project a) (successors_are project a limits is)
followers_through-le project a (suc m) limits is =
    let known = followers_through project m a in
    omega (
      arith,
      length-filter_le (λ b. names known b || list_any (λ p. precedes project p b) known)
          (numbers (activity_count project)),
      length-numbers (activity_count project),
    )

-- so the count of all successors fits
all_successors-below : (project : Project) (a : ℕ) → IsWithinLimits project → IsActivity project a
    → all_successors project a < 2 ^ 32
unfolding followers
all_successors-below project a limits is =
    omega (
      arith,
      followers_through-le project a (activity_count project) limits is,
      limits.activities,
    )

-- the list by a rule's keys is the list by the rule
by_rule_key : (project : Project) (rule : Rule) → IsWithinLimits project
    → key_list project (rule_key project rule) ≡ rule_list project rule
unfolding number_list
by_rule_key project Number limits = refl
by_rule_key project Lft limits = refl
by_rule_key project Lst limits = refl
by_rule_key project Mts limits = greatest_list-is project (all_successors project)
    (λ a is. all_successors-below project a limits is)
by_rule_key project Grpw limits = greatest_list-is project (positional_weight project)
    (λ a is. weight-below project a limits is)

-- so is the list by the table of its keys
pub by_rule_keys : (project : Project) (rule : Rule) → IsWithinLimits project
    → key_list project (key_in (map (rule_key project rule) (numbers (activity_count project))))
    ≡ rule_list project rule
by_rule_keys project rule limits =
    let n = activity_count project in
    key_list-same project (key_in (map (rule_key project rule) (numbers n))) (rule_key project rule)
    (λ a is. get_or-map-range_with_len (rule_key project rule) 1 n (a - 1) a 0
    (omega (arith, is.0, is.1)) (omega (arith, is.0)))
    ∙ by_rule_key project rule limits

-- the keys of the activities before one, and its own
pub keys_next : (f : ℕ → ℕ) (a : ℕ) → 1 ≤ a → map f (numbers (a - 1)) ++ f a ∷ [] ≡ map f
    (numbers (a + 1 - 1))
keys_next f a one = sym (map_push f (numbers (a - 1)) a) ∙ ap (map f) (numbers_next a one)

-- a latest finish is at most the critical length
pub latest_finish-le : (project : Project) (order : List ℕ) (a : ℕ) → IsWithinLimits project
    → IsFeasibleList project order
    → IsActivity project a → latest_finish project a ≤ MAX_DURATION_SUM
latest_finish-le project order a limits list is =
    let fit = windows_fit project order a limits list is in
    let alone = fit.tail.longest [] (IsChain-one project a is) in
    omega (arith, fit.within, fit.together, alone, sum_by-cons (duration project) a [])
