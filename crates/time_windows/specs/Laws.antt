-- The main laws of time windows and bounds, each over all projects.
use Rattle.std.specs.Prelude.{◌≡◌, ℕ, ◌+◌, ◌≤◌, List, map}
use Rattle.rc_instance.specs.Lists.{greatest, numbers}
use Rattle.rc_instance.specs.Project.{Project, IsActivity, activity_count}
use Rattle.rc_instance.specs.Calendar.{IsWithinLimits}
use Rattle.rc_instance.specs.Order.{IsFeasibleList}
use Rattle.rc_instance.specs.Schedule.{IsFeasible, makespan, start_at}
use Rattle.time_windows.specs.Windows.{IsEarliest, IsTail, IsCritical, earliest_of, tail_of, critical_of, latest_of}
use Rattle.time_windows.specs.CapacityBound.{capacity_bound_of}

-- no feasible schedule has a makespan below the critical length
abbrev pub MakespanIsAtLeastCritical : Type 0
MakespanIsAtLeastCritical = (project : Project) (starts : List ℕ) (t : ℕ)
    → IsFeasible project starts → IsCritical project t → t ≤ makespan project starts

-- nor below the capacity bound
abbrev pub MakespanIsAtLeastCapacityBound : Type 0
MakespanIsAtLeastCapacityBound = (project : Project) (starts : List ℕ)
    → IsFeasible project starts → capacity_bound_of project ≤ makespan project starts

-- in a feasible schedule the tail of each activity fits between its start and the makespan
abbrev pub TailFitsAfterStart : Type 0
TailFitsAfterStart = (project : Project) (starts : List ℕ) (a t : ℕ)
    → IsFeasible project starts → IsTail project a t
    → start_at starts a + t ≤ makespan project starts

-- in a feasible schedule no activity starts before its earliest start
abbrev pub NoStartIsBeforeEarliest : Type 0
NoStartIsBeforeEarliest = (project : Project) (starts : List ℕ) (a t : ℕ)
    → IsFeasible project starts → IsEarliest project a t → t ≤ start_at starts a

-- nor, if the schedule ends by the critical length, after its latest start
abbrev pub NoStartIsAfterLatest : Type 0
NoStartIsAfterLatest = (project : Project) (order starts : List ℕ) (a : ℕ)
    → IsWithinLimits project → IsFeasibleList project order → IsActivity project a
    → IsFeasible project starts → makespan project starts ≤ critical_of project
    → start_at starts a ≤ latest_of project a

-- there are no two earliest starts, tails or critical lengths
abbrev pub EarliestIsUnique : Type 0
EarliestIsUnique = (project : Project) (a t u : ℕ) → IsEarliest project a t
    → IsEarliest project a u → t ≡ u

abbrev pub TailIsUnique : Type 0
TailIsUnique = (project : Project) (a t u : ℕ) → IsTail project a t → IsTail project a u → t ≡ u

abbrev pub CriticalIsUnique : Type 0
CriticalIsUnique = (project : Project) (t u : ℕ) → IsCritical project t → IsCritical project u
    → t ≡ u

-- the computed ones are those of the definitions, where there is a feasible list
abbrev pub EarliestIsComputed : Type 0
EarliestIsComputed = (project : Project) (order : List ℕ) (a : ℕ) → IsFeasibleList project order
    → IsActivity project a → IsEarliest project a (earliest_of project a)

abbrev pub TailIsComputed : Type 0
TailIsComputed = (project : Project) (order : List ℕ) (a : ℕ) → IsWithinLimits project
    → IsFeasibleList project order → IsActivity project a → IsTail project a (tail_of project a)

abbrev pub CriticalIsComputed : Type 0
CriticalIsComputed = (project : Project) (order : List ℕ) → IsWithinLimits project
    → IsFeasibleList project order → IsCritical project (critical_of project)

-- the critical length is the greatest sum of an earliest start and the tail of the same activity
abbrev pub CriticalIsGreatestWindow : Type 0
CriticalIsGreatestWindow = (project : Project) (order : List ℕ) → IsWithinLimits project
    → IsFeasibleList project order
    → critical_of project
    ≡ greatest (map (λ a. earliest_of project a + tail_of project a)
    (numbers (activity_count project)))
