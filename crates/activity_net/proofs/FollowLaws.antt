-- What follows an activity, step by step.
use Rattle.std.proofs.Common.{◌≡◌, ℕ, zero, suc, ◌+◌, ◌-◌, ◌<◌, ◌≤◌, ◌||◌, Bool, true, List, [], ◌∷◌, ◌++◌, length, slice_index, cond, if◌then◌else◌, sym, refl, ap, ◌∙◌, subst, inl, inr, arith, ◌⊎◌}
use Rattle.std.specs.List.{list_any, count_by}
use Rattle.std.proofs.lemmas.Bool.{and_from, and_parts, or_cases, or_left, or_right}
use Rattle.std.proofs.lemmas.List.Elements.{All-contains}
use Rattle.rc_instance.specs.Lists.{names, numbers, IsRising}
use Rattle.rc_instance.specs.Project.{Project, activity_count, IsActivity, Precedes, precedes, successors_of}
use Rattle.rc_instance.specs.Calendar.{IsWithinLimits}
use Rattle.rc_instance.specs.Order.{IsFeasibleList}
use Rattle.rc_instance.proofs.SetLaws.{numbers_that, set_is}
use Rattle.activity_net.proofs.PredecessorLaws.{numbers-more}
use Rattle.std.proofs.lemmas.List.Sums.{length-filter, sum_by_push}
use Rattle.rc_instance.proofs.LimitLaws.{successors_are}
use Rattle.rc_instance.proofs.OrderLaws.{feasible_list-before, place_in_feasible_list}
use Rattle.activity_net.specs.Follows.{Leads, Follows, with_successors, followers_through, followers}
use Rattle.activity_net.proofs.NameLaws.{names_filter, contains_named}
use Rattle.activity_net.proofs.StuckLaws.{any_named, named_any, named_numbers}

-- a direct successor is an activity
pub successor_is : (project : Project) (a b : ℕ) → IsWithinLimits project → IsActivity project a
    → Precedes project a b → IsActivity project b
unfolding precedes
successor_is project a b limits activity before =
    All-contains (IsActivity project) (successors_of project a) b
    (successors_are project a limits activity).within
    (contains_named (successors_of project a) b before)

-- so is the end of a chain
leads_to : (project : Project) (a : ℕ) (between : List ℕ) (b : ℕ) → IsWithinLimits project
    → IsActivity project a → Leads project a between b → IsActivity project b
leads_to project a [] b limits activity chain = successor_is project a b limits activity chain
leads_to project a (c ∷ between) b limits activity chain =
    successor_is project c b limits (leads_to project a between c limits activity chain.0) chain.1

pub follower_is : (project : Project) (a b : ℕ) → IsWithinLimits project → IsActivity project a
    → Follows project a b → IsActivity project b
follower_is project a b limits activity follows = leads_to project a follows.between b limits
    activity follows.chain

-- a chain with one more step at its beginning
leads_from : (project : Project) (a s : ℕ) (between : List ℕ) (b : ℕ) → Precedes project a s
    → Leads project s between b → Leads project a (between ++ s ∷ []) b
leads_from project a s [] b first chain = (first, chain)
leads_from project a s (c ∷ between) b first chain =
    (leads_from project a s between c first chain.0, chain.1)

-- what follows a is a direct successor, or follows one
pub follows_first : (project : Project) (a b s : ℕ) → Precedes project a s
    → (s ≡ b) ⊎ Follows project s b → Follows project a b
follows_first project a b s first (inl same) = record {
  between = [];
  chain =
      subst (λ (c : ℕ). Precedes project a c) same first;
}
follows_first project a b s first (inr rest) = record {
  between = rest.between
      ++ s ∷ [];
  chain = leads_from project a s rest.between b first rest.chain;
}

first_of_chain : (project : Project) (a : ℕ) (between : List ℕ) (b : ℕ) → Leads project a between b
    → (s : ℕ) × Precedes project a s × ((s ≡ b) ⊎ Follows project s b)
first_of_chain project a [] b chain = (b, chain, inl refl)
first_of_chain project a (c ∷ between) b chain =
    let first = first_of_chain project a between c chain.0 in (
      first.0,
      first.1,
      inr (elim (first.2) as (λ _. Follows project first.0 b) [
        | inl same ↦ record {
          between = [];
          chain = subst (λ (s : ℕ). Precedes project s b)
              (sym same) chain.1;
        }
        | inr rest ↦ record { between = c ∷ rest.between; chain = (rest.chain, chain.1) }
      ]),
    )

pub first_step : (project : Project) (a b : ℕ) → Follows project a b
    → (s : ℕ) × Precedes project a s × ((s ≡ b) ⊎ Follows project s b)
first_step project a b follows = first_of_chain project a follows.between b follows.chain

-- a chain is no longer than the place of its end in a feasible list
chain-place : (project : Project) (order : List ℕ) (a : ℕ) (between : List ℕ) (b place : ℕ)
    → IsWithinLimits project → IsFeasibleList project order
    → IsActivity project a → Leads project a between b → place < length order
    → slice_index order place ≡ b → length between < place
chain-place project order a [] b place limits list activity chain within at =
    let before = feasible_list-before project order place a list within activity
    (subst (Precedes project a) (sym at) chain) in
    omega (arith, before.1)
chain-place project order a (c ∷ between) b place limits list activity chain within at =
    let middle = leads_to project a between c limits activity chain.0 in
    let before = feasible_list-before project order place c list within middle
    (subst (Precedes project c) (sym at) chain.1) in
    let shorter = chain-place project order a between c before.0 limits list activity chain.0
    (omega (arith, before.1)) before.2 in
    omega (arith, before.1)

-- what is named with the successors
named_with : (project : Project) (known : List ℕ) (b : ℕ) → names (with_successors project known) b
    ≡ true
    → (names known b || list_any (λ a. precedes project a b) known) ≡ true
named_with project known b named =
    (and_parts (names (numbers (activity_count project)) b)
    (names known b || list_any (λ a. precedes project a b) known)
    (sym (names_filter (λ b. names known b || list_any (λ a. precedes project a b) known)
    (numbers (activity_count project)) b) ∙ named)).1

with_named : (project : Project) (known : List ℕ) (b : ℕ) → IsActivity project b
    → (names known b || list_any (λ a. precedes project a b) known) ≡ true
    → names (with_successors project known) b ≡ true
with_named project known b activity known_or =
    names_filter (λ b. names known b || list_any (λ a. precedes project a b) known)
    (numbers (activity_count project)) b
    ∙ and_from (names (numbers (activity_count project)) b)
    (names known b || list_any (λ a. precedes project a b) known)
    (named_numbers (activity_count project) b activity.0 activity.1) known_or

-- what is named after some rounds follows
followers_follow : (project : Project) (most a b : ℕ) → names (followers_through project most a) b
    ≡ true → Follows project a b
unfolding followers_through precedes
followers_follow project zero a b named = record { between = []; chain = named }
followers_follow project (suc most) a b named =
    let known = followers_through project most a in
    elim (or_cases (names known b) (list_any (λ p. precedes project p b) known)
    (named_with project known b named)) as (λ _. Follows project a b) [
      | inl before ↦ followers_follow project most a b before
      | inr after ↦
          let last = named_any (λ p. precedes project p b) known after in
          let rest = followers_follow project most a last.0 last.1 in
          record { between = last.0 ∷ rest.between; chain = (rest.chain, last.2) }
    ]

-- and what follows through so many others is named
followers_named : (project : Project) (most a : ℕ) (between : List ℕ) (b : ℕ)
    → IsWithinLimits project → IsActivity project a
    → Leads project a between b → length between ≤ most → names (followers_through project most a) b
    ≡ true
unfolding followers_through precedes
followers_named project zero a [] b limits activity chain few = chain
followers_named project zero a (c ∷ between) b limits activity chain few = Prim.absurd (omega arith)
followers_named project (suc most) a [] b limits activity chain few =
    let known = followers_through project most a in
    with_named project known b (successor_is project a b limits activity chain)
    (or_left (names known b) (list_any (λ p. precedes project p b) known)
    (followers_named project most a [] b limits activity chain (omega arith)))
followers_named project (suc most) a (c ∷ between) b limits activity chain few =
    let known = followers_through project most a in
    let middle = leads_to project a between c limits activity chain.0 in
    with_named project known b (successor_is project c b limits middle chain.1)
    (or_right (names known b) (list_any (λ p. precedes project p b) known)
    (any_named (λ p. precedes project p b) known c
    (followers_named project most a between c limits activity chain.0 (omega arith)) chain.1))

-- the followers are just what follows
pub follows_named : (project : Project) (a b : ℕ) → names (followers project a) b ≡ true
    → Follows project a b
unfolding followers
follows_named project a b named = followers_follow project (activity_count project) a b named

pub named_follower : (project : Project) (order : List ℕ) (a b : ℕ) → IsWithinLimits project
    → IsFeasibleList project order
    → IsActivity project a → Follows project a b → names (followers project a) b ≡ true
unfolding followers
named_follower project order a b limits list activity follows =
    let end = follower_is project a b limits activity follows in
    let place = place_in_feasible_list project order b list end in
    let short = chain-place project order a follows.between b place.0 limits list activity
    follows.chain place.1 place.2 in
    followers_named project (activity_count project) a follows.between b limits activity
    follows.chain (omega (arith, list.count, place.1))

-- what follows through so many others are activities, in rising order
through_are : (project : Project) (most a : ℕ) → IsWithinLimits project → IsActivity project a
    → IsRising (activity_count project) (followers_through project most a)
unfolding followers_through
through_are project zero a limits activity = successors_are project a limits activity
through_are project (suc most) a limits activity =
    let known = followers_through project most a in
    numbers_that (activity_count project) (λ b. names known b || list_any
    (λ p. precedes project p b) known)

-- the followers are activities, in rising order
pub followers_are : (project : Project) (a : ℕ) → IsWithinLimits project → IsActivity project a
    → IsRising (activity_count project) (followers project a)
unfolding followers
followers_are project a limits activity = through_are project (activity_count project) a limits
    activity

-- so as many numbers of activities are named among them as there are
pub followers_counted : (project : Project) (a : ℕ) → IsWithinLimits project → IsActivity project a
    → count_by (names (followers project a)) (numbers (activity_count project))
    ≡ length (followers project a)
followers_counted project a limits activity =
    let n = activity_count project in
    let list = followers project a in
    let are = followers_are project a limits activity in
    sym (length-filter (names list) (numbers n))
    ∙ ap length (sym (set_is n list list are.rising (λ _ h. h) (λ _ h. h) are.within))

-- one number more is counted where it is named
pub count_by-numbers_more : (test : ℕ → Bool) (m : ℕ) → count_by test (numbers (m + 1))
    ≡ count_by test (numbers m) + (if test (m + 1) then 1 else 0)
count_by-numbers_more test m = ap (count_by test) (numbers-more m)
    ∙ sum_by_push (λ n. cond (test n) 1 0) (numbers m) (m + 1)

-- the same with the number that comes next
pub count_by-numbers_next : (test : ℕ → Bool) (k now before : ℕ) (counted : Bool) → 1 ≤ k
    → counted ≡ test k
    → before ≡ count_by test (numbers (k - 1)) → now ≡ before + (if counted then 1 else 0)
    → now ≡ count_by test (numbers (k + 1 - 1))
count_by-numbers_next test k now before counted from same was is =
    let next : k - 1 + 1 ≡ k = omega arith in
    let this : k + 1 - 1 ≡ k - 1 + 1 = omega arith in
    let more : count_by test (numbers (k - 1 + 1)) ≡ count_by test (numbers (k - 1))
    + (if test (k - 1 + 1) then 1 else 0) = count_by-numbers_more test (k - 1) in
    let here : (if test (k - 1 + 1) then 1 else 0) ≡ (if counted then 1 else 0) =
    ap (λ (n : ℕ). if test n then 1 else 0) next ∙ ap (λ (b : Bool). if b then 1 else 0)
    (sym same) in
    is ∙ (ap (λ (n : ℕ). n + (if counted then 1 else 0)) was
    ∙ (ap (λ (n : ℕ). count_by test (numbers (k - 1)) + n) (sym here)
    ∙ (sym more ∙ ap (λ (n : ℕ). count_by test (numbers n)) (sym this))))
