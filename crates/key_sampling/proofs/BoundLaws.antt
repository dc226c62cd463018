-- Bounds of the value of a sample.
use Rattle.std.proofs.Common.{ℕ, ◌+◌, ◌<◌, ◌≤◌, List, [], ◌∷◌, length, slice_index, arith}
use Rattle.std.proofs.lemmas.List.Sums.{sum_by-cons}
use Rattle.std.proofs.lemmas.List.Elements.{All-nil, All-cons}
use Rattle.rc_instance.specs.Project.{Project, duration, IsActivity}
use Rattle.rc_instance.specs.Misfit.{HasNoMisfit}
use Rattle.rc_instance.specs.Order.{IsFeasibleList}
use Rattle.rc_instance.specs.Serial.{serial_start}
use Rattle.rc_instance.specs.Schedule.{IsFeasible, makespan, serial_schedule}
use Rattle.rc_instance.proofs.FeasibleLaws.{start_at-place, IsFeasible-serial_schedule}
use Rattle.time_windows.specs.Chains.{IsChain}
use Rattle.time_windows.specs.Windows.{IsTail, IsCritical}
use Rattle.time_windows.specs.CapacityBound.{capacity_bound_of}
use Rattle.time_windows.proofs.WindowLaws.{start-tail-le, critical-le-makespan}
use Rattle.time_windows.proofs.BoundLaws.{capacity_bound-le-makespan}
use Rattle.key_sampling.specs.Samples.{sample_list, sample_makespan}
use Rattle.key_sampling.proofs.SampleLaws.{IsFeasibleList-sample_list}

-- the schedule of a sample is feasible
pub IsFeasible-sample : (project : Project) (seed sample : ℕ) (order : List ℕ)
    → HasNoMisfit project → IsFeasibleList project order
    → IsFeasible project (serial_schedule project (sample_list project seed sample))
IsFeasible-sample project seed sample order fits list =
    IsFeasible-serial_schedule project (sample_list project seed sample) fits
    (IsFeasibleList-sample_list project seed sample order list)

-- the critical length is a bound of the value of each sample
pub critical-le-sample : (project : Project) (seed sample critical : ℕ) (order : List ℕ)
    → HasNoMisfit project → IsFeasibleList project order → IsCritical project critical
    → critical ≤ sample_makespan project seed sample
unfolding sample_makespan
critical-le-sample project seed sample critical order fits list is =
    critical-le-makespan project (serial_schedule project (sample_list project seed sample)) critical
    (IsFeasible-sample project seed sample order fits list) is

-- and so is the capacity bound
pub capacity_bound-le-sample : (project : Project) (seed sample : ℕ) (order : List ℕ)
    → HasNoMisfit project → IsFeasibleList project order
    → capacity_bound_of project ≤ sample_makespan project seed sample
unfolding sample_makespan
capacity_bound-le-sample project seed sample order fits list =
    capacity_bound-le-makespan project (serial_schedule project (sample_list project seed sample))
    (IsFeasible-sample project seed sample order fits list)

-- the start and the tail of an activity of a list end by the makespan
pub start-tail-le-list : (project : Project) (order : List ℕ) (place tail : ℕ) → HasNoMisfit project
    → IsFeasibleList project order → place < length order
    → IsTail project (slice_index order place) tail
    → serial_start project order place + tail ≤ makespan project (serial_schedule project order)
start-tail-le-list project order place tail fits list within is =
    let starts = serial_schedule project order in
    let start = start_at-place project order place list.activities list.once within in
    let low = start-tail-le project starts (slice_index order place) tail
    (IsFeasible-serial_schedule project order fits list) is in
    omega arith

-- a tail is no shorter than its activity
pub duration-le-tail : (project : Project) (a tail : ℕ) → IsActivity project a
    → IsTail project a tail → duration project a ≤ tail
duration-le-tail project a tail activity is =
    let alone : IsChain project (a ∷ []) = record {
      activities = All-cons (IsActivity project) a [] activity (All-nil (IsActivity project));
      next = λ place within. Prim.absurd (omega arith);
    } in
    omega (arith, is.longest [] alone, sum_by-cons (duration project) a [])
