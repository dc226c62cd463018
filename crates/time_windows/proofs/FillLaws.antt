-- One step of a pass that fills a table with the times of the activities.
use Rattle.std.proofs.Common.{◌≡◌, ℕ, ◌+◌, ◌-◌, ◌<◌, ◌≤◌, List, length, set, map, sym, ◌∙◌, subst, arith, slice_index}
use Rattle.std.specs.List.{All}
use Rattle.std.proofs.lemmas.List.Elements.{All-get_or, All-set}
use Rattle.rc_instance.specs.declared.limits.TheConstants.{MAX_DURATION_SUM}
use Rattle.rc_instance.specs.Lists.{greatest}
use Rattle.rc_instance.specs.Project.{Project, activity_count, IsActivity, duration, successors_of}
use Rattle.rc_instance.specs.Calendar.{IsWithinLimits}
use Rattle.rc_instance.specs.Order.{IsFeasibleList}
use Rattle.activity_net.specs.Network.{predecessors_of}
use Rattle.time_windows.specs.Windows.{earliest_of, tail_of}
use Rattle.time_windows.proofs.WindowLaws.{windows_fit}
use Rattle.time_windows.proofs.TableLaws.{ShowsPlaces, ShowsPlaces-next, ShowsPlaces-before, earliest_shown, tail_shown}

-- each activity of a feasible list has a place in the table
inside_table : (project : Project) (order table : List ℕ) → IsFeasibleList project order
    → length table ≡ activity_count project → All (λ a. (1 ≤ a) × (a ≤ length table)) order
inside_table project order table list count = λ k d within.
    let is = list.activities k d within in (is.0, omega (arith, is.1))

-- a table with small times and those of the places from low on and before high
pub record IsFilled (f : ℕ → ℕ) (order table : List ℕ) (low high : ℕ) : Type 0 where
  pub small : All (λ t. t ≤ MAX_DURATION_SUM) table
  pub shown : ShowsPlaces f order table low high

-- the earliest start at the next place
pub earliest_step : (project : Project) (order table : List ℕ) (i t : ℕ) → IsWithinLimits project
    → IsFeasibleList project order → length table ≡ activity_count project → i < length order
    → IsFilled (earliest_of project) order table 0 i
    → t ≡ greatest (map (λ p. slice_index table (p - 1) + duration project p)
    (predecessors_of project (slice_index order i)))
    → IsFilled (earliest_of project) order (set table (slice_index order i - 1) t) 0 (i + 1)
earliest_step project order table i t limits list count within filled value =
    let a = slice_index order i in
    let activity = All-get_or (IsActivity project) order i 0 within list.activities in
    let same : t ≡ earliest_of project a =
    value ∙ earliest_shown project order table i list within filled.shown in
    let fit = windows_fit project order a limits list activity in
    let few : t ≤ MAX_DURATION_SUM = omega (arith, fit.together, fit.within) in
    record {
      small = All-set (λ t. t ≤ MAX_DURATION_SUM) table (a - 1) t few filled.small;
      shown = subst (λ (v : ℕ). ShowsPlaces (earliest_of project) order (set table (a - 1) v)
          0 (i + 1))
          (sym same)
          (ShowsPlaces-next (earliest_of project) order table i
          (inside_table project order table list count) within filled.shown);
    }

-- the tail at the place before
pub tail_step : (project : Project) (order table : List ℕ) (place d t : ℕ) → IsWithinLimits project
    → IsFeasibleList project order → length table ≡ activity_count project
    → 0 < place → place ≤ length order
    → IsFilled (tail_of project) order table place (length order)
    → d ≡ duration project (slice_index order (place - 1))
    → t ≡ greatest (map (λ b. slice_index table (b - 1))
    (successors_of project (slice_index order (place - 1))))
    → IsFilled (tail_of project) order (set table (slice_index order (place - 1) - 1) (d + t))
    (place - 1) (length order)
tail_step project order table place d t limits list count some upto filled takes value =
    let i = place - 1 in
    let back : place ≡ i + 1 = omega arith in
    let a = slice_index order i in
    let within : i < length order = omega arith in
    let activity = All-get_or (IsActivity project) order i 0 within list.activities in
    let shown = subst (λ (n : ℕ). ShowsPlaces (tail_of project) order table n (length order)) back
    filled.shown in
    let same : d + t ≡ tail_of project a =
    omega (arith, tail_shown project order table i limits list within shown) in
    let fit = windows_fit project order a limits list activity in
    let few : d + t ≤ MAX_DURATION_SUM = omega (arith, fit.together, fit.within) in
    record {
      small = All-set (λ t. t ≤ MAX_DURATION_SUM) table (a - 1) (d + t) few filled.small;
      shown = subst (λ (v : ℕ). ShowsPlaces (tail_of project) order (set table (a - 1) v)
          i (length order))
          (sym same)
          (ShowsPlaces-before (tail_of project) order table i
          (inside_table project order table list count) within shown);
    }

-- a table that is filled at no place
pub none_filled : (f : ℕ → ℕ) (order table : List ℕ) (low : ℕ)
    → All (λ t. t ≤ MAX_DURATION_SUM) table → IsFilled f order table low low
none_filled f order table low small = record {
  small = small;
  shown = record { at = λ place from below. Prim.absurd (omega arith) };
}
