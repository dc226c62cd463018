-- The main laws, each over all projects.
use Rattle.std.specs.Prelude.{◌≡◌, ◌↔◌, ℕ, max, ◌+◌, ◌<◌, ◌≤◌, List, ◌++◌, length, take, slice_index, All, Contains, IsTrue}
use Rattle.rc_instance.specs.declared.change.Change.{Change}
use Rattle.rc_instance.specs.Calendar.{IsCalendar}
use Rattle.rc_instance.specs.Project.{Project, IsActivity, IsResource, resource_count, duration, capacity, capacity_at, horizon}
use Rattle.rc_instance.specs.Misfit.{HasNoMisfit}
use Rattle.rc_instance.specs.Usage.{Booking, Fits, IsLeastFrom, IsLeast, IsLastBy, usage, rest_time, fits, least_from, least_start, last_by}
use Rattle.rc_instance.specs.Serial.{serial_bookings, serial_start}
use Rattle.rc_instance.specs.Order.{IsFeasibleList}
use Rattle.rc_instance.specs.Schedule.{IsFeasible, makespan, serial_schedule}

-- the bookings exceed no capacity in any period
pub record IsWithinCapacity (project : Project) (bookings : List Booking) : Type 0 where
  pub within : (k p : ℕ) → IsResource project k
      → usage project bookings k p ≤ capacity_at project k p

-- in a calendar the capacity of a resource in a period is that of its change with the greatest period
-- up to then
abbrev pub LatestChangeDecides : Type 0
LatestChangeDecides = (project : Project) (k p : ℕ) (change : Change)
    → IsCalendar (resource_count project) project.changes → Contains project.changes change
    → change.resource ≡ k → change.period ≤ p
    → ((other : Change) → Contains project.changes other → other.resource ≡ k → other.period ≤ p
    → other.period ≤ change.period)
    → capacity_at project k p ≡ change.capacity

-- where a resource has no change up to then, that is its capacity before any change
abbrev pub UnchangedUntilFirst : Type 0
UnchangedUntilFirst = (project : Project) (k p : ℕ)
    → ((other : Change) → Contains project.changes other → other.resource ≡ k → p < other.period)
    → capacity_at project k p ≡ capacity project k

-- the computed test is true exactly where the activity fits
abbrev pub TestOfFitIsExact : Type 0
TestOfFitIsExact = (project : Project) (bookings : List Booking) (a t : ℕ)
    → IsTrue (fits project bookings a t) ↔ Fits project bookings a t

-- without a misfit an activity has a least start from each floor on: the computed one,
-- which is no later than the floor, or the time from which nothing changes and nothing runs
abbrev pub LeastStartExists : Type 0
LeastStartExists = (project : Project) (bookings : List Booking) (a floor : ℕ)
    → HasNoMisfit project → IsActivity project a
    → IsLeastFrom project bookings a floor (least_from project bookings a floor)
    × (least_from project bookings a floor ≤ max floor (rest_time project bookings))

-- and it has one after its booked direct predecessors
abbrev pub LeastStartAfterPredecessorsExists : Type 0
LeastStartAfterPredecessorsExists = (project : Project) (bookings : List Booking) (a : ℕ)
    → HasNoMisfit project → IsActivity project a
    → IsLeast project bookings a (least_start project bookings a)
    × (least_start project bookings a ≤ rest_time project bookings)

-- a least start, where there is one, is the computed one: there are never two
abbrev pub LeastStartIsUnique : Type 0
LeastStartIsUnique = (project : Project) (bookings : List Booking) (a floor t : ℕ)
    → IsLeastFrom project bookings a floor t → t ≡ least_from project bookings a floor

-- where a start that ends by the end fits, there is a latest one: the computed one
abbrev pub LatestStartExists : Type 0
LatestStartExists = (project : Project) (bookings : List Booking) (a end t : ℕ)
    → t + duration project a ≤ end → Fits project bookings a t
    → IsLastBy project bookings a end (last_by project bookings a end)

-- a latest start by an end, where there is one, is the computed one: there are never two
abbrev pub LatestStartIsUnique : Type 0
LatestStartIsUnique = (project : Project) (bookings : List Booking) (a end t : ℕ)
    → IsLastBy project bookings a end t → t ≡ last_by project bookings a end

-- beside more bookings and from a later floor on, a least start is never earlier
abbrev pub LeastStartIsNeverEarlier : Type 0
LeastStartIsNeverEarlier = (project : Project) (bookings more : List Booking)
    (a floor later t u : ℕ) → floor ≤ later
    → IsLeastFrom project bookings a floor t
    → IsLeastFrom project (bookings ++ more) a later u → t ≤ u

-- the least start beside what the first c places of an order book is at most the start
-- that the serial scheme gives to the activity of a later place
abbrev pub EarlyStartIsNoLater : Type 0
EarlyStartIsNoLater = (project : Project) (order : List ℕ) (c i : ℕ)
    → HasNoMisfit project → All (IsActivity project) order → c ≤ i → i < length order
    → least_start project (serial_bookings project (take c order)) (slice_index order i)
    ≤ serial_start project order i

-- what the serial scheme books of any activities exceeds no capacity
abbrev pub SerialStaysWithinCapacity : Type 0
SerialStaysWithinCapacity = (project : Project) (order : List ℕ)
    → HasNoMisfit project → All (IsActivity project) order
    → IsWithinCapacity project (serial_bookings project order)

-- the serial schedule of a feasible list is feasible, and ends by the horizon
abbrev pub SerialScheduleIsFeasible : Type 0
SerialScheduleIsFeasible = (project : Project) (order : List ℕ)
    → HasNoMisfit project → IsFeasibleList project order
    → IsFeasible project (serial_schedule project order)
    × (makespan project (serial_schedule project order) ≤ horizon project)
