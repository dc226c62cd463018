-- The computed times of longest chains are those of the definitions.
use Rattle.std.proofs.Common.{◌≡◌, ℕ, zero, suc, ◌+◌, ◌<◌, ◌≤◌, List, [], ◌∷◌, ◌++◌, length, take, map, sym, refl, ap, ◌∙◌, ◌⊎◌, subst, inl, inr, arith, slice_index}
use Rattle.std.specs.List.{Contains}
use Rattle.std.proofs.lemmas.List.{length-append, take_at, get_or_at}
use Rattle.std.proofs.lemmas.List.Elements.{All-get_or, All-contains}
use Rattle.std.proofs.lemmas.List.Sums.{sum_by-cons, sum_by_push, sum_by_more}
use Rattle.rc_instance.specs.Lists.{greatest, numbers}
use Rattle.rc_instance.specs.Project.{Project, activity_count, IsActivity, Precedes, duration, successors_of}
use Rattle.rc_instance.specs.Calendar.{IsWithinLimits}
use Rattle.rc_instance.specs.Order.{IsFeasibleList}
use Rattle.rc_instance.proofs.LimitLaws.{successors_are}
use Rattle.rc_instance.proofs.ListLaws.{get_or-numbers, length-numbers}
use Rattle.rc_instance.proofs.OrderLaws.{Contains-numbers}
use Rattle.activity_net.specs.Network.{predecessors_of}
use Rattle.time_windows.specs.Chains.{IsChain, time_of}
use Rattle.time_windows.specs.Windows.{IsEarliest, IsTail, IsCritical, earliest_within, tail_within, earliest_of, tail_of, critical_of}
use Rattle.time_windows.proofs.GreatestLaws.{greatest-map-ge, greatest-map-attained, Contains-predecessors, predecessor_is, Contains-successors, successor_precedes}
use Rattle.time_windows.proofs.ChainLaws.{IsChain-nil, IsChain-one, IsChain-head, IsChain-tail, IsChain-second, IsChain-cons, IsChain-push, chain-le}

-- there is one earliest start, one tail and one critical length
pub IsEarliest-unique : (project : Project) (a t u : ℕ) → IsEarliest project a t
    → IsEarliest project a u → t ≡ u
IsEarliest-unique project a t u one other =
    omega (
      arith,
      one.longest other.reached.0 other.reached.1,
      other.longest one.reached.0 one.reached.1,
      one.reached.2,
      other.reached.2,
    )

pub IsTail-unique : (project : Project) (a t u : ℕ) → IsTail project a t → IsTail project a u
    → t ≡ u
IsTail-unique project a t u one other =
    omega (
      arith,
      one.longest other.reached.0 other.reached.1,
      other.longest one.reached.0 one.reached.1,
      one.reached.2,
      other.reached.2,
    )

pub IsCritical-unique : (project : Project) (t u : ℕ) → IsCritical project t
    → IsCritical project u → t ≡ u
IsCritical-unique project t u one other =
    omega (
      arith,
      one.longest other.reached.0 other.reached.1,
      other.longest one.reached.0 one.reached.1,
      one.reached.2,
      other.reached.2,
    )

-- no chain of at most so many activities takes longer before one of its activities
earliest_within-ge : (project : Project) (steps : ℕ) (chain : List ℕ) (place : ℕ)
    → IsChain project chain → place < length chain → place ≤ steps
    → time_of project (take place chain) ≤ earliest_within project steps (slice_index chain place)
unfolding earliest_within
earliest_within-ge project steps chain zero chained within few = omega arith
earliest_within-ge project zero chain (suc place) chained within few = Prim.absurd (omega arith)
earliest_within-ge project (suc steps) chain (suc place) chained within few =
    let step : place + 1 ≡ suc place = omega arith in
    let a = slice_index chain place in
    let b = slice_index chain (suc place) in
    let activity = All-get_or (IsActivity project) chain place 0 (omega arith) chained.activities in
    let before = subst (Precedes project a) (ap (slice_index chain) step)
    (chained.next place (omega arith)) in
    let least = greatest-map-ge
    (λ p. earliest_within project steps p + duration project p)
    (predecessors_of project b) a (Contains-predecessors project a b activity before) in
    omega (
      arith,
      least,
      earliest_within-ge project steps chain place chained (omega arith) (omega arith),
      sum_by_more (duration project) chain place 0 (omega arith),
      ap (λ (n : ℕ). time_of project (take n chain)) step,
    )

-- the computed time before an activity is that of a chain
earliest_within-reached : (project : Project) (steps a : ℕ) → IsActivity project a
    → (chain : List ℕ) × IsChain project (chain ++ a ∷ [])
    × (time_of project chain ≡ earliest_within project steps a)
unfolding earliest_within
earliest_within-reached project zero a activity = ([], IsChain-one project a activity, refl)
earliest_within-reached project (suc steps) a activity =
    let f = λ (p : ℕ). earliest_within project steps p + duration project p in
    elim (greatest-map-attained f (predecessors_of project a)) [
      | inl none ↦ ([], IsChain-one project a activity, sym none)
      | inr some ↦
          let before = predecessor_is project some.0 a some.1 in
          let longest = earliest_within-reached project steps some.0 before.0 in (
            longest.0 ++ some.0 ∷ [],
            IsChain-push project longest.0 some.0 a longest.1 activity before.1,
            omega (
              arith,
              some.2,
              longest.2,
              sum_by_push (duration project) longest.0 some.0,
            ),
          )
    ]

-- with steps for all activities, it is the longest time
pub earliest_within-is : (project : Project) (order : List ℕ) (steps a : ℕ)
    → IsFeasibleList project order → IsActivity project a → activity_count project ≤ steps
    → IsEarliest project a (earliest_within project steps a)
earliest_within-is project order steps a list activity many = record {
  reached = earliest_within-reached project steps a activity;
  longest = λ chain chained.
      let whole = chain ++ a ∷ [] in
      let short = chain-le project order whole list chained in
      let long = length-append chain (a ∷ []) in
      let before : take (length chain) whole ≡ chain = take_at chain (a ∷ []) (length chain) refl in
      let at : slice_index whole (length chain) ≡ a = get_or_at chain a [] 0 (length chain) refl in
      let least = earliest_within-ge project steps whole (length chain) chained (omega arith)
      (omega (arith, short.0)) in
      omega (arith, least, ap (time_of project) before, ap (earliest_within project steps) at);
}

-- no chain that goes on for at most so many activities takes longer
tail_within-ge : (project : Project) (steps a : ℕ) (rest : List ℕ) → IsChain project (a ∷ rest)
    → length rest ≤ steps → time_of project (a ∷ rest) ≤ tail_within project steps a
unfolding tail_within
tail_within-ge project zero a [] chained few = omega arith
tail_within-ge project (suc steps) a [] chained few = omega arith
tail_within-ge project zero a (b ∷ rest) chained few = Prim.absurd (omega arith)
tail_within-ge project (suc steps) a (b ∷ rest) chained few =
    let after = IsChain-second project a b rest chained in
    omega (
      arith,
      sum_by-cons (duration project) a (b ∷ rest),
      tail_within-ge project steps b rest (IsChain-tail project a (b ∷ rest) chained) (omega arith),
      greatest-map-ge (tail_within project steps) (successors_of project a) b
          (Contains-successors project a b after),
    )

-- the computed time from an activity on is that of a chain
tail_within-reached : (project : Project) (steps a : ℕ) → IsWithinLimits project
    → IsActivity project a
    → (rest : List ℕ) × IsChain project (a ∷ rest)
    × (time_of project (a ∷ rest) ≡ tail_within project steps a)
unfolding tail_within
tail_within-reached project zero a limits activity =
    ([], IsChain-one project a activity, omega arith)
tail_within-reached project (suc steps) a limits activity =
    elim (greatest-map-attained (tail_within project steps) (successors_of project a)) [
      | inl none ↦ ([], IsChain-one project a activity, omega (arith, none))
      | inr some ↦
          let b = some.0 in
          let inside = All-contains (IsActivity project) (successors_of project a) b
          (successors_are project a limits activity).within some.1 in
          let longest = tail_within-reached project steps b limits inside in (
            b ∷ longest.0,
            IsChain-cons project a b longest.0 activity (successor_precedes project a b some.1)
                longest.1,
            omega (
              arith,
              sum_by-cons (duration project) a (b ∷ longest.0),
              longest.2,
              some.2,
            ),
          )
    ]

-- with steps for all activities, it is the longest time
pub tail_within-is : (project : Project) (order : List ℕ) (steps a : ℕ) → IsWithinLimits project
    → IsFeasibleList project order → IsActivity project a → activity_count project ≤ steps
    → IsTail project a (tail_within project steps a)
tail_within-is project order steps a limits list activity many = record {
  reached = tail_within-reached project steps a limits activity;
  longest = λ rest chained.
      let short = chain-le project order (a ∷ rest) list chained in
      tail_within-ge project steps a rest chained (omega (arith, short.0));
}

-- the computed earliest start and tail are those of the definitions
pub earliest_of-is : (project : Project) (order : List ℕ) (a : ℕ) → IsFeasibleList project order
    → IsActivity project a → IsEarliest project a (earliest_of project a)
unfolding earliest_of
earliest_of-is project order a list activity =
    earliest_within-is project order (activity_count project) a list activity (omega arith)

pub tail_of-is : (project : Project) (order : List ℕ) (a : ℕ) → IsWithinLimits project
    → IsFeasibleList project order → IsActivity project a → IsTail project a (tail_of project a)
unfolding tail_of
tail_of-is project order a limits list activity =
    tail_within-is project order (activity_count project) a limits list activity (omega arith)

-- what the numbers up to the count contain is an activity
pub is_number : (project : Project) (a : ℕ) → Contains (numbers (activity_count project)) a
    → IsActivity project a
is_number project a h =
    let n = activity_count project in
    let e = get_or-numbers n h.0 a (omega (arith, h.1, length-numbers n)) in
    (omega (arith, h.2), omega (arith, h.1, h.2, length-numbers n))

-- no chain takes longer than the greatest tail
critical-ge : (project : Project) (order chain : List ℕ) → IsWithinLimits project
    → IsFeasibleList project order → IsChain project chain
    → time_of project chain ≤ critical_of project
unfolding critical_of
critical-ge project order [] limits list chained = omega arith
critical-ge project order (a ∷ rest) limits list chained =
    let activity = IsChain-head project a rest chained in
    omega (
      arith,
      (tail_of-is project order a limits list activity).longest rest chained,
      greatest-map-ge (tail_of project) (numbers (activity_count project)) a
          (Contains-numbers (activity_count project) a activity.0 activity.1),
    )

-- the computed critical length is the tail of an activity, or 0
pub critical_of-attained : (project : Project)
    → (critical_of project ≡ 0)
    ⊎ ((a : ℕ) × Contains (numbers (activity_count project)) a
    × (critical_of project ≡ tail_of project a))
unfolding critical_of
critical_of-attained project =
    greatest-map-attained (tail_of project) (numbers (activity_count project))

-- so is the computed critical length
pub critical_of-is : (project : Project) (order : List ℕ) → IsWithinLimits project
    → IsFeasibleList project order → IsCritical project (critical_of project)
unfolding critical_of
critical_of-is project order limits list = record {
  reached =
      elim (greatest-map-attained (tail_of project) (numbers (activity_count project))) [
        | inl none ↦ ([], IsChain-nil project, sym none)
        | inr some ↦
            let activity = is_number project some.0 some.1 in
            let longest = (tail_of-is project order some.0 limits list activity).reached in
            (some.0 ∷ longest.0, longest.1, longest.2 ∙ sym some.2)
      ];
  longest = λ chain chained. critical-ge project order chain limits list chained;
}

-- the earliest start of an activity is the greatest earliest finish of its direct predecessors
pub earliest_of-next : (project : Project) (order : List ℕ) (a : ℕ) → IsFeasibleList project order
    → IsActivity project a
    → earliest_of project a
    ≡ greatest (map (λ p. earliest_of project p + duration project p) (predecessors_of project a))
unfolding earliest_of earliest_within
earliest_of-next project order a list activity =
    let n = activity_count project in
    IsEarliest-unique project a (earliest_within project n a) (earliest_within project (suc n) a)
    (earliest_within-is project order n a list activity (omega arith))
    (earliest_within-is project order (suc n) a list activity (omega arith))

-- the tail of an activity is its own time and the greatest tail of its direct successors
pub tail_of-next : (project : Project) (order : List ℕ) (a : ℕ) → IsWithinLimits project
    → IsFeasibleList project order → IsActivity project a
    → tail_of project a
    ≡ duration project a + greatest (map (tail_of project) (successors_of project a))
unfolding tail_of tail_within
tail_of-next project order a limits list activity =
    let n = activity_count project in
    IsTail-unique project a (tail_within project n a) (tail_within project (suc n) a)
    (tail_within-is project order n a limits list activity (omega arith))
    (tail_within-is project order (suc n) a limits list activity (omega arith))
