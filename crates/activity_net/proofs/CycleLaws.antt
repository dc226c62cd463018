-- Cycles and feasible lists exclude one another.
use Rattle.std.proofs.Common.{◌≡◌, ℕ, zero, suc, ◌-◌, ◌<◌, List, length, sym, subst, arith, slice_index}
use Rattle.rc_instance.specs.Project.{Project, Precedes}
use Rattle.rc_instance.specs.Order.{IsFeasibleList, IsCycle}
use Rattle.rc_instance.proofs.OrderLaws.{feasible_list-before, place_in_feasible_list}

-- the activity before another one in a cycle
before_in_cycle : (project : Project) (ring : List ℕ) (place : ℕ) → IsCycle project ring
    → place < length ring
    → (before : ℕ) × (before < length ring) × Precedes project (slice_index ring before)
    (slice_index ring place)
before_in_cycle project ring zero cycle within =
    (length ring - 1, omega arith, cycle.closes (length ring - 1) (omega arith))
before_in_cycle project ring (suc place) cycle within = (
  place,
  omega arith,
  subst (λ (next : ℕ). Precedes project (slice_index ring place)
      (slice_index ring next)) (omega arith) (cycle.next place (omega arith)),
)

-- an activity of a cycle has no place in a feasible list: one before it in the cycle would have an
-- earlier place
no_place : (project : Project) (order ring : List ℕ) → IsFeasibleList project order
    → IsCycle project ring
    → (bound place member : ℕ) → place < bound → place < length order → member < length ring
    → slice_index order place ≡ slice_index ring member → ⊥
no_place project order ring list cycle zero place member below within inside same = omega arith
no_place project order ring list cycle (suc bound) place member below within inside same =
    let before = before_in_cycle project ring member cycle inside in
    let activity = cycle.activities before.0 0 before.1 in
    let earlier = feasible_list-before project order place (slice_index ring before.0) list within
    activity
    (subst (Precedes project (slice_index ring before.0)) (sym same) before.2) in
    no_place project order ring list cycle bound earlier.0 before.0 (omega arith) (omega arith)
    before.1 earlier.2

-- where there is a feasible list there is no cycle
pub feasible_list-no_cycle : (project : Project) (order ring : List ℕ)
    → IsFeasibleList project order → IsCycle project ring → ⊥
feasible_list-no_cycle project order ring list cycle =
    let here = place_in_feasible_list project order (slice_index ring 0) list
    (cycle.activities 0 0 cycle.some) in
    no_place project order ring list cycle (length order) here.0 0 here.1 here.1 cycle.some here.2
