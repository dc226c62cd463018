-- The main laws of the parallel scheme, each over all projects.
use Rattle.std.specs.Prelude.{◌≡◌, ◌↔◌, ◌≤◌, ℕ, List, IsTrue}
use Rattle.rc_instance.specs.Project.{Project, IsActivity, horizon}
use Rattle.rc_instance.specs.Misfit.{HasNoMisfit}
use Rattle.rc_instance.specs.Usage.{Booking}
use Rattle.rc_instance.specs.Serial.{serial_bookings}
use Rattle.rc_instance.specs.Order.{IsFeasibleList}
use Rattle.rc_instance.specs.Schedule.{IsFeasible, makespan}
use Rattle.parallel_scheme.specs.Parallel.{CanStart, can_start, activities_of, parallel_bookings, parallel_schedule}
use Rattle.parallel_scheme.specs.NonDelay.{IsNonDelay}

-- the computed test is true exactly where the activity can start
abbrev pub TestOfStartIsExact : Type 0
TestOfStartIsExact = (project : Project) (bookings : List Booking) (t a : ℕ) → IsActivity project a
    → IsTrue (can_start project bookings t a) ↔ CanStart project bookings t a

-- the scheme books what the serial scheme books of the order in which it books
abbrev pub ParallelIsSerial : Type 0
ParallelIsSerial = (project : Project) (order : List ℕ)
    → HasNoMisfit project → IsFeasibleList project order
    → IsFeasibleList project (activities_of (parallel_bookings project order))
    × (parallel_bookings project order
    ≡ serial_bookings project (activities_of (parallel_bookings project order)))

-- the parallel schedule of a feasible list is feasible, and ends by the horizon
abbrev pub ParallelScheduleIsFeasible : Type 0
ParallelScheduleIsFeasible = (project : Project) (order : List ℕ)
    → HasNoMisfit project → IsFeasibleList project order
    → IsFeasible project (parallel_schedule project order)
    × (makespan project (parallel_schedule project order) ≤ horizon project)

-- it lets nothing wait that could run
abbrev pub ParallelScheduleIsNonDelay : Type 0
ParallelScheduleIsNonDelay = (project : Project) (order : List ℕ)
    → HasNoMisfit project → IsFeasibleList project order
    → IsNonDelay project (parallel_schedule project order)
