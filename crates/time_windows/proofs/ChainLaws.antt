-- How chains are made longer and taken apart, and how long they can be.
use Rattle.std.proofs.Common.{◌≡◌, ℕ, zero, suc, ◌+◌, ◌<◌, ◌≤◌, List, [], ◌∷◌, ◌++◌, length, take, sym, refl, ap, ◌∙◌, subst, arith, slice_index}
use Rattle.std.specs.List.{sum_by}
use Rattle.std.proofs.lemmas.List.{append_assoc, length-append, take_all, take-take, get_or_at}
use Rattle.std.proofs.lemmas.List.Elements.{All-cons, All-nil, All-head, All-tail, All-get_or}
use Rattle.std.proofs.lemmas.List.Sums.{sum_by_more, sum_by-take-le}
use Rattle.rc_instance.specs.Project.{Project, activity_count, IsActivity, Precedes, duration, duration_sum}
use Rattle.rc_instance.specs.Order.{IsFeasibleList}
use Rattle.rc_instance.proofs.OrderLaws.{place_in_feasible_list, feasible_list-before, sum_by-duration-le}
use Rattle.time_windows.specs.Chains.{IsChain, time_of}

-- no activity is a chain, and so is one
pub IsChain-nil : (project : Project) → IsChain project []
IsChain-nil project = record {
  activities = All-nil _;
  next = λ place within. Prim.absurd (omega arith);
}

pub IsChain-one : (project : Project) (a : ℕ) → IsActivity project a → IsChain project (a ∷ [])
IsChain-one project a activity = record {
  activities = All-cons (IsActivity project) a [] activity (All-nil _);
  next = λ place within. Prim.absurd (omega arith);
}

-- a chain begins with an activity, and without it is a chain
pub IsChain-head : (project : Project) (a : ℕ) (rest : List ℕ) → IsChain project (a ∷ rest)
    → IsActivity project a
IsChain-head project a rest chain = All-head (IsActivity project) a rest chain.activities

pub IsChain-tail : (project : Project) (a : ℕ) (rest : List ℕ) → IsChain project (a ∷ rest)
    → IsChain project rest
IsChain-tail project a rest chain = record {
  activities = All-tail (IsActivity project) a rest chain.activities;
  next = λ place within.
      let step : suc place + 1 ≡ suc (place + 1) = omega arith in
      subst (λ n. Precedes project (slice_index rest place) (slice_index (a ∷ rest) n)) step
      (chain.next (suc place) (omega arith));
}

-- its second activity is a direct successor of its first
pub IsChain-second : (project : Project) (a b : ℕ) (rest : List ℕ) → IsChain project (a ∷ b ∷ rest)
    → Precedes project a b
IsChain-second project a b rest chain = chain.next 0 (omega arith)

-- an activity that precedes the first of a chain directly makes it longer
next_from : (project : Project) (a b : ℕ) (rest : List ℕ) → Precedes project a b
    → IsChain project (b ∷ rest) → (place : ℕ) → place + 1 < length (a ∷ b ∷ rest)
    → Precedes project (slice_index (a ∷ b ∷ rest) place) (slice_index (a ∷ b ∷ rest) (place + 1))
next_from project a b rest before chain zero within = before
next_from project a b rest before chain (suc place) within =
    let step : suc (place + 1) ≡ suc place + 1 = omega arith in
    subst (λ n. Precedes project (slice_index (b ∷ rest) place) (slice_index (a ∷ b ∷ rest) n)) step
    (chain.next place (omega arith))

pub IsChain-cons : (project : Project) (a b : ℕ) (rest : List ℕ) → IsActivity project a
    → Precedes project a b → IsChain project (b ∷ rest) → IsChain project (a ∷ b ∷ rest)
IsChain-cons project a b rest activity before chain = record {
  activities = All-cons (IsActivity project) a (b ∷ rest) activity chain.activities;
  next = next_from project a b rest before chain;
}

-- two chains that meet at an activity are one chain
pub IsChain-join : (project : Project) (chain : List ℕ) (a : ℕ) (rest : List ℕ)
    → IsChain project (chain ++ a ∷ []) → IsChain project (a ∷ rest)
    → IsChain project (chain ++ a ∷ rest)
IsChain-join project [] a rest first second = second
IsChain-join project (x ∷ []) a rest first second =
    IsChain-cons project x a rest (IsChain-head project x (a ∷ []) first)
    (IsChain-second project x a [] first) second
IsChain-join project (x ∷ y ∷ chain) a rest first second =
    IsChain-cons project x y (chain ++ a ∷ rest)
    (IsChain-head project x (y ∷ chain ++ a ∷ []) first)
    (IsChain-second project x y (chain ++ a ∷ []) first)
    (IsChain-join project (y ∷ chain) a rest
    (IsChain-tail project x (y ∷ chain ++ a ∷ []) first) second)

-- a direct successor of the last activity of a chain makes it longer
pub IsChain-push : (project : Project) (chain : List ℕ) (a b : ℕ)
    → IsChain project (chain ++ a ∷ []) → IsActivity project b → Precedes project a b
    → IsChain project ((chain ++ a ∷ []) ++ b ∷ [])
IsChain-push project chain a b whole activity before =
    let last = All-get_or (IsActivity project) (chain ++ a ∷ []) (length chain) 0
    (omega (arith, length-append chain (a ∷ []))) whole.activities in
    let at : slice_index (chain ++ a ∷ []) (length chain) ≡ a =
    get_or_at chain a [] 0 (length chain) refl in
    let two = IsChain-cons project a b [] (subst (IsActivity project) at last) before
    (IsChain-one project b activity) in
    subst (IsChain project) (sym (append_assoc chain (a ∷ []) (b ∷ [])))
    (IsChain-join project chain a (b ∷ []) whole two)

-- an activity of a chain has at least as many before it in a feasible list, and they take
-- at least as long
pub chain-within_order : (f : ℕ → ℕ) (project : Project) (order chain : List ℕ) (place here : ℕ)
    → IsFeasibleList project order → IsChain project chain → place < length chain
    → here < length order → slice_index order here ≡ slice_index chain place
    → (place ≤ here) × (sum_by f (take place chain) ≤ sum_by f (take here order))
chain-within_order f project order chain zero here list chained within inside same =
    (omega arith, omega arith)
chain-within_order f project order chain (suc place) here list chained within inside same =
    let step : place + 1 ≡ suc place = omega arith in
    let a = slice_index chain place in
    let activity = All-get_or (IsActivity project) chain place 0 (omega arith) chained.activities in
    let precedes = subst (Precedes project a) (ap (slice_index chain) step ∙ sym same)
    (chained.next place (omega arith)) in
    let before = feasible_list-before project order here a list inside activity precedes in
    let rest = chain-within_order f project order chain place before.0 list chained (omega arith)
    (omega (arith, before.1)) before.2 in
    let more = ap (λ (n : ℕ). sum_by f (take n chain)) step in
    let shorter = take-take (before.0 + 1) here order (omega (arith, before.1)) in (
      omega (arith, rest.0, before.1),
      omega (
        arith,
        rest.1,
        sum_by_more f chain place 0 (omega arith),
        sum_by_more f order before.0 0 (omega (arith, before.1)),
        ap f before.2,
        ap (sum_by f) shorter,
        sum_by-take-le f (take here order) (before.0 + 1),
      ),
    )

-- a chain of a project with a feasible list has at most as many activities as the project,
-- and takes at most as long as all of them
pub chain-le : (project : Project) (order chain : List ℕ) → IsFeasibleList project order
    → IsChain project chain
    → (length chain ≤ activity_count project) × (time_of project chain ≤ duration_sum project)
chain-le project order [] list chained = (omega arith, omega arith)
chain-le project order (a ∷ rest) list chained =
    let chain = a ∷ rest in
    let last = length rest in
    let activity = All-get_or (IsActivity project) chain last 0 (omega arith) chained.activities in
    let here = place_in_feasible_list project order (slice_index chain last) list activity in
    let within = chain-within_order (duration project) project order chain last here.0 list chained
    (omega arith) here.1 here.2 in
    let whole : take (last + 1) chain ≡ chain = take_all (last + 1) chain (omega arith) in (
      omega (arith, within.0, here.1, list.count),
      omega (
        arith,
        within.1,
        sum_by_more (duration project) chain last 0 (omega arith),
        sum_by_more (duration project) order here.0 0 here.1,
        ap (duration project) here.2,
        ap (time_of project) whole,
        sum_by-take-le (duration project) order (here.0 + 1),
        sum_by-duration-le project order list.activities list.once,
      ),
    )
