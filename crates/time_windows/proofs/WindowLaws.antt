-- Windows among one another, and what they say of feasible schedules.
use Rattle.std.proofs.Common.{inl, inr, map, ◌≡◌, ℕ, zero, suc, ◌+◌, ◌<◌, ◌≤◌, List, [], ◌∷◌, ◌++◌, length, take, refl, ap, subst, arith, slice_index}
use Rattle.std.proofs.lemmas.List.{length-append, take_at, get_or_at}
use Rattle.std.proofs.lemmas.List.Elements.{All-get_or}
use Rattle.std.proofs.lemmas.List.Sums.{sum_by-cons, sum_by-append, sum_by_more}
use Rattle.rc_instance.specs.Calendar.{IsWithinLimits}
use Rattle.rc_instance.specs.declared.limits.TheConstants.{MAX_DURATION_SUM}
use Rattle.rc_instance.specs.Project.{Project, activity_count, IsActivity, Precedes, duration, duration_sum}
use Rattle.rc_instance.specs.Order.{IsFeasibleList}
use Rattle.rc_instance.specs.Schedule.{IsFeasible, makespan, start_at}
use Rattle.rc_instance.proofs.ScheduleLaws.{finish-le-makespan}
use Rattle.time_windows.specs.Chains.{IsChain, time_of}
use Rattle.time_windows.specs.Windows.{IsEarliest, IsTail, IsCritical, earliest_of, tail_of, critical_of, latest_of}
use Rattle.time_windows.proofs.LongestLaws.{earliest_of-is, tail_of-is, critical_of-is, critical_of-attained, is_number}
use Rattle.time_windows.proofs.GreatestLaws.{greatest-map-ge, greatest-map-attained}
use Rattle.rc_instance.specs.Lists.{greatest, numbers}
use Rattle.time_windows.proofs.ChainLaws.{IsChain-head, IsChain-tail, IsChain-second, IsChain-join, chain-le}

-- an earliest start and a tail fit into the critical length
pub earliest-tail-le : (project : Project) (a e t c : ℕ) → IsEarliest project a e
    → IsTail project a t → IsCritical project c → e + t ≤ c
earliest-tail-le project a e t c earliest tail critical =
    let before = earliest.reached in
    let after = tail.reached in
    omega (
      arith,
      before.2,
      after.2,
      sum_by-append (duration project) before.0 (a ∷ after.0),
      critical.longest (before.0 ++ a ∷ after.0)
          (IsChain-join project before.0 a after.0 before.1 after.1),
    )

-- where there is a feasible list, no window exceeds the sum of all durations
pub critical-le : (project : Project) (order : List ℕ) (c : ℕ) → IsFeasibleList project order
    → IsCritical project c → c ≤ duration_sum project
critical-le project order c list critical =
    let longest = critical.reached in
    omega (arith, longest.2, (chain-le project order longest.0 list longest.1).1)

-- in a feasible schedule an activity of a chain starts once those before it have run
start-ge : (project : Project) (starts chain : List ℕ) (place : ℕ) → IsFeasible project starts
    → IsChain project chain → place < length chain
    → time_of project (take place chain) ≤ start_at starts (slice_index chain place)
start-ge project starts chain zero feasible chained within = omega arith
start-ge project starts chain (suc place) feasible chained within =
    let step : place + 1 ≡ suc place = omega arith in
    let a = slice_index chain place in
    let b = slice_index chain (suc place) in
    let at = λ (i : ℕ) (inside : i < length chain).
    All-get_or (IsActivity project) chain i 0 inside chained.activities in
    let before = subst (Precedes project a) (ap (slice_index chain) step)
    (chained.next place (omega arith)) in
    omega (
      arith,
      start-ge project starts chain place feasible chained (omega arith),
      feasible.precedence a b (at place (omega arith)) (at (suc place) within) before,
      sum_by_more (duration project) chain place 0 (omega arith),
      ap (λ (n : ℕ). time_of project (take n chain)) step,
    )

-- so no activity starts before its earliest start
pub earliest-le-start : (project : Project) (starts : List ℕ) (a t : ℕ)
    → IsFeasible project starts → IsEarliest project a t → t ≤ start_at starts a
earliest-le-start project starts a t feasible earliest =
    let chain = earliest.reached.0 in
    let whole = chain ++ a ∷ [] in
    let before : take (length chain) whole ≡ chain = take_at chain (a ∷ []) (length chain) refl in
    let at : slice_index whole (length chain) ≡ a = get_or_at chain a [] 0 (length chain) refl in
    omega (
      arith,
      earliest.reached.2,
      start-ge project starts whole (length chain) feasible earliest.reached.1
          (omega (arith, length-append chain (a ∷ []))),
      ap (time_of project) before,
      ap (start_at starts) at,
    )

-- after the start of a chain its whole time passes by the makespan
start-time-le : (project : Project) (starts : List ℕ) (a : ℕ) (rest : List ℕ)
    → IsFeasible project starts → IsChain project (a ∷ rest)
    → start_at starts a + time_of project (a ∷ rest) ≤ makespan project starts
start-time-le project starts a [] feasible chained =
    let activity = IsChain-head project a [] chained in
    omega (
      arith,
      finish-le-makespan project starts a activity.0 (omega (arith, activity.1, feasible.count)),
    )
start-time-le project starts a (b ∷ rest) feasible chained =
    let tail = IsChain-tail project a (b ∷ rest) chained in
    omega (
      arith,
      start-time-le project starts b rest feasible tail,
      feasible.precedence a b (IsChain-head project a (b ∷ rest) chained)
          (IsChain-head project b rest tail) (IsChain-second project a b rest chained),
      sum_by-cons (duration project) a (b ∷ rest),
    )

-- so the tail of each activity passes after its start
pub start-tail-le : (project : Project) (starts : List ℕ) (a t : ℕ)
    → IsFeasible project starts → IsTail project a t
    → start_at starts a + t ≤ makespan project starts
start-tail-le project starts a t feasible tail =
    omega (
      arith,
      tail.reached.2,
      start-time-le project starts a tail.reached.0 feasible tail.reached.1,
    )

-- and no feasible schedule is shorter than a chain
time-le-makespan : (project : Project) (starts chain : List ℕ) → IsFeasible project starts
    → IsChain project chain → time_of project chain ≤ makespan project starts
time-le-makespan project starts [] feasible chained = omega arith
time-le-makespan project starts (a ∷ rest) feasible chained =
    omega (arith, start-time-le project starts a rest feasible chained)

pub critical-le-makespan : (project : Project) (starts : List ℕ) (c : ℕ)
    → IsFeasible project starts → IsCritical project c → c ≤ makespan project starts
critical-le-makespan project starts c feasible critical =
    omega (
      arith,
      critical.reached.2,
      time-le-makespan project starts critical.reached.0 feasible critical.reached.1,
    )

-- the windows of a network within its limits: they fit into one another and into the limit
pub record Fit (project : Project) (a : ℕ) : Type 0 where
  pub earliest : IsEarliest project a (earliest_of project a)
  pub tail : IsTail project a (tail_of project a)
  pub together : earliest_of project a + tail_of project a ≤ critical_of project
  pub within : critical_of project ≤ MAX_DURATION_SUM

pub windows_fit : (project : Project) (order : List ℕ) (a : ℕ) → IsWithinLimits project
    → IsFeasibleList project order → IsActivity project a → Fit project a
windows_fit project order a limits list activity =
    let earliest = earliest_of-is project order a list activity in
    let tail = tail_of-is project order a limits list activity in
    let critical = critical_of-is project order limits list in
    record {
      earliest = earliest;
      tail = tail;
      together = earliest-tail-le project a _ _ _ earliest tail critical;
      within = omega (
        arith,
        critical-le project order (critical_of project) list critical,
        limits.durations,
      );
    }

-- a feasible schedule that ends by the critical length starts no activity after its latest start
pub start-le-latest : (project : Project) (order starts : List ℕ) (a : ℕ) → IsWithinLimits project
    → IsFeasibleList project order → IsActivity project a → IsFeasible project starts
    → makespan project starts ≤ critical_of project
    → start_at starts a ≤ latest_of project a
start-le-latest project order starts a limits list activity feasible ends =
    let fit = windows_fit project order a limits list activity in
    omega (arith, start-tail-le project starts a (tail_of project a) feasible fit.tail)

-- the critical length is the greatest sum of an earliest start and a tail
pub critical-greatest : (project : Project) (order : List ℕ) → IsWithinLimits project
    → IsFeasibleList project order
    → critical_of project
    ≡ greatest (map (λ a. earliest_of project a + tail_of project a)
    (numbers (activity_count project)))
critical-greatest project order limits list =
    let window = λ (a : ℕ). earliest_of project a + tail_of project a in
    let most = greatest (map window (numbers (activity_count project))) in
    let above : most ≤ critical_of project =
    elim (greatest-map-attained window (numbers (activity_count project))) [
      | inl none ↦ omega arith
      | inr some ↦
          let activity = is_number project some.0 some.1 in
          let fit = windows_fit project order some.0 limits list activity in
          omega (arith, fit.together, some.2)
    ] in
    let below : critical_of project ≤ most =
    elim (critical_of-attained project) [
      | inl none ↦ omega arith
      | inr some ↦ omega (
        arith,
        some.2,
        greatest-map-ge window (numbers (activity_count project)) some.0 some.1,
      )
    ] in
    omega arith
