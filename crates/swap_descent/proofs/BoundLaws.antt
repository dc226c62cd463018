-- What a start and a tail say of the makespan, and of exchanges.
use Rattle.std.proofs.Common.{◌≡◌, ℕ, ◌+◌, ◌-◌, ◌<◌, ◌≤◌, true, false, List, length, get_or, take, slice_index, nat_lt, sym, refl, ap, ap₂, ◌∙◌, subst, inl, inr, arith, below_more}
use Rattle.std.proofs.lemmas.Bool.{cases_Bool, ltb-true, ltb-false, le-ltb}
use Rattle.std.proofs.lemmas.List.{take-take, get_or-take, get_or_default, length-take}
use Rattle.std.proofs.lemmas.List.Edits.{length-swap}
use Rattle.std.proofs.lemmas.List.Elements.{All-get_or}
use Rattle.rc_instance.specs.Calendar.{IsWithinLimits}
use Rattle.rc_instance.specs.Misfit.{HasNoMisfit}
use Rattle.rc_instance.specs.Order.{IsFeasibleList}
use Rattle.rc_instance.specs.Project.{Project, IsActivity, duration, precedes}
use Rattle.rc_instance.specs.Usage.{finish, least_start}
use Rattle.rc_instance.specs.Serial.{serial_bookings}
use Rattle.rc_instance.specs.Schedule.{serial_schedule}
use Rattle.rc_instance.proofs.UsageLaws.{last_finish-le}
use Rattle.rc_instance.proofs.SerialLaws.{length-serial, get_or-serial}
use Rattle.rc_instance.proofs.FeasibleLaws.{start_at-place, IsFeasible-serial_schedule, makespan-serial_schedule}
use Rattle.time_windows.specs.Windows.{tail_of}
use Rattle.time_windows.proofs.LongestLaws.{tail_of-is, tail_of-next}
use Rattle.time_windows.proofs.WindowLaws.{start-tail-le}
use Rattle.activity_net.proofs.SwapLaws.{IsFeasibleList-swap, take-swap}
use Rattle.swap_descent.specs.Descent.{swapped, serial_makespan, improves}
use Rattle.swap_descent.specs.Placed.{IsBelow, bound_at}

-- no makespan is less than a start and the tail after it
pub bound-le : (project : Project) (order : List ℕ) (i : ℕ) → HasNoMisfit project
    → IsWithinLimits project → IsFeasibleList project order → i < length order
    → bound_at project order i ≤ serial_makespan project order
bound-le project order i none limits list within =
    let a = slice_index order i in
    let activity = All-get_or (IsActivity project) order i 0 within list.activities in
    omega (
      arith,
      start_at-place project order i list.activities list.once within,
      start-tail-le project (serial_schedule project order) a (tail_of project a)
          (IsFeasible-serial_schedule project order none list)
          (tail_of-is project order a limits list activity),
    )

-- one more place that does not reach the limit
pub IsBelow-more : (project : Project) (order : List ℕ) (place limit : ℕ)
    → IsBelow project order place limit
    → nat_lt (bound_at project order place) limit ≡ true
    → IsBelow project order (place + 1) limit
IsBelow-more project order place limit below here = record {
  each = below_more (λ i. bound_at project order i < limit) place below.each
      (ltb-true (bound_at project order place) limit here);
}

-- at first nothing is shown
pub IsBelow-none : (project : Project) (order : List ℕ) (limit : ℕ) → IsBelow project order 0 limit
IsBelow-none project order limit = record { each = λ i below. absurd (omega arith) }

-- a tail includes the activity's own time
tail-ge : (project : Project) (order : List ℕ) (a : ℕ) → IsWithinLimits project
    → IsFeasibleList project order → IsActivity project a → duration project a ≤ tail_of project a
tail-ge project order a limits list activity =
    omega (arith, tail_of-next project order a limits list activity)

-- where no place shows that the limit is reached, the makespan is below it
pub below_all : (project : Project) (order : List ℕ) (place limit : ℕ) → IsWithinLimits project
    → IsFeasibleList project order → length order ≤ place → IsBelow project order place limit
    → serial_makespan project order < limit
below_all project order place limit limits list all below =
    let bookings = serial_bookings project order in
    let first : bound_at project order 0 < limit =
    below.each 0 (omega (arith, limits.some, list.count)) in
    let ended = last_finish-le project bookings (limit - 1)
    (λ i d inside.
    let within : i < length order = omega (arith, length-serial project order) in
    let a = slice_index order i in
    let activity = All-get_or (IsActivity project) order i 0 within list.activities in
    let here : bound_at project order i < limit = below.each i (omega arith) in
    let long = tail-ge project order a limits list activity in
    subst (λ b. finish project b ≤ limit - 1) (sym (get_or-serial project order i d within))
    (omega arith)) in
    omega (arith, makespan-serial_schedule project order list)

-- once a place shows it, the makespan is not below the limit
pub reached_at : (project : Project) (order : List ℕ) (place limit : ℕ) → HasNoMisfit project
    → IsWithinLimits project → IsFeasibleList project order → place < length order
    → nat_lt (bound_at project order place) limit ≡ false
    → nat_lt (serial_makespan project order) limit ≡ false
reached_at project order place limit none limits list within here =
    le-ltb (serial_makespan project order) limit
    (omega (
      arith,
      ltb-false (bound_at project order place) limit here,
      bound-le project order place none limits list within,
    ))

-- what a place shows depends on no later place
pub bound-same : (project : Project) (order other : List ℕ) (i place : ℕ)
    → take place other ≡ take place order → i < place
    → bound_at project other i ≡ bound_at project order i
bound-same project order other i place same below =
    let before : take i other ≡ take i order =
    sym (take-take i place other (omega arith))
    ∙ (ap (take i) same ∙ take-take i place order (omega arith)) in
    let here : slice_index other i ≡ slice_index order i =
    sym (get_or-take place other i 0 below)
    ∙ (ap (λ xs. get_or xs i 0) same ∙ get_or-take place order i 0 below) in
    ap₂ (λ (xs : List ℕ) (a : ℕ). least_start project (serial_bookings project xs) a
    + tail_of project a) before here

-- so an exchange leaves what the places before it show
pub IsBelow-same : (project : Project) (order other : List ℕ) (place limit : ℕ)
    → take place other ≡ take place order → IsBelow project order place limit
    → IsBelow project other place limit
IsBelow-same project order other place limit same below = record {
  each = λ i h. subst (λ bound. bound < limit) (sym (bound-same project order other i place same h))
      (below.each i h);
}

-- in a feasible list no activity directly precedes the one before it
pub not_back : (project : Project) (order : List ℕ) (i : ℕ) → IsFeasibleList project order
    → i + 1 < length order
    → precedes project (slice_index order (i + 1)) (slice_index order i) ≡ false
not_back project order i list within =
    let a = slice_index order (i + 1) in
    let before = precedes project a (slice_index order i) in
    elim before as (λ b. before ≡ b → b ≡ false) [
      | true ↦ λ e.
          let named = list.after i a (omega arith) (list.activities (i + 1) 0 within) e in
          let k = named.0 in
          let low : k < i = omega (arith, named.1, length-take i order) in
          let value : get_or order k a ≡ a = sym (get_or-take i order k a low) ∙ named.2 in
          absurd (list.once k (i + 1) a (omega arith) within
          (value ∙ get_or_default order (i + 1) 0 a within))
      | false ↦ λ _. refl
    ] refl

-- no exchange of a direct predecessor improves
pub improves-not : (project : Project) (order : List ℕ) (i : ℕ)
    → precedes project (slice_index order i) (slice_index order (i + 1)) ≡ true
    → improves project order i ≡ false
unfolding improves
improves-not project order i before = rw before refl

-- another one does where the makespan falls
pub improves-is : (project : Project) (order : List ℕ) (i : ℕ)
    → precedes project (slice_index order i) (slice_index order (i + 1)) ≡ false
    → improves project order i
    ≡ nat_lt (serial_makespan project (swapped order i)) (serial_makespan project order)
unfolding improves
improves-is project order i free = rw free refl

-- once the place before it shows that the makespan is reached, no later exchange improves
pub improves-late : (project : Project) (order : List ℕ) (i place : ℕ) → HasNoMisfit project
    → IsWithinLimits project → IsFeasibleList project order → place < i → i + 1 < length order
    → nat_lt (bound_at project order place) (serial_makespan project order) ≡ false
    → improves project order i ≡ false
improves-late project order i place none limits list below within here =
    let before = precedes project (slice_index order i) (slice_index order (i + 1)) in
    elim (cases_Bool before) as (λ _. improves project order i ≡ false) [
      | inl e ↦ improves-not project order i e
      | inr e ↦
          let other = swapped order i in
          let feasible = IsFeasibleList-swap project order i list within e in
          let same = bound-same project order other place i (take-swap order i within) below in
          improves-is project order i e
          ∙ reached_at project other place (serial_makespan project order) none limits feasible
          (omega (arith, length-swap order i (i + 1)))
          (ap (λ bound. nat_lt bound (serial_makespan project order)) same ∙ here)
    ]
