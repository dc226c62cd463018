-- A line of bookings, as contracts see it.
use Rattle.std.specs.Prelude.{◌≡◌, ◌≢◌, ℕ, max, ◌+◌, ◌<◌, ◌≤◌, List, [], ◌∷◌, ◌++◌}
use Rattle.std.specs.List.{All}
use Rattle.rc_instance.specs.declared.limits.TheConstants.{MAX_HORIZON}
use Rattle.rc_instance.specs.Project.{Project, IsActivity, IsResource, duration, demand, last_capacity}
use Rattle.rc_instance.specs.Usage.{Booking, Fits, IsLeastFrom, IsLastBy, last_finish, rest_time}

-- a project and what is booked of it, the oldest booking first
pub record Timeline : Type 0 where
  pub project : Project
  pub bookings : List Booking

-- no booking is of activity a
abbrev pub IsUnbooked : List Booking → ℕ → Type 0
IsUnbooked bookings a = All (λ booking. booking.activity ≢ a) bookings

-- activity a can run once nothing changes any more and nothing runs
pub record FitsAtRest (project : Project) (a : ℕ) : Type 0 where
  pub within : (k : ℕ) → IsResource project k → 0 < duration project a
      → demand project a k ≤ last_capacity project k

-- a line with one booking more: activity a from a start on
abbrev pub with_booking : Timeline → ℕ → ℕ → Timeline
with_booking line a start = record line {
  bookings = line.bookings ++ record { activity = a; start = start } ∷ [];
}

-- activity a can be booked from the floor on: it is not booked yet, it can run once all else is over,
-- and this is within the horizon
pub record CanPlaceFrom (line : Timeline) (a floor : ℕ) : Type 0 where
  pub activity : IsActivity line.project a
  pub unbooked : IsUnbooked line.bookings a
  pub fits : FitsAtRest line.project a
  pub from : floor ≤ MAX_HORIZON
  pub ended : last_finish line.project line.bookings ≤ MAX_HORIZON

-- it is booked at its least start from the floor on, no later than the time at which all else is over
pub record IsPlacedFrom (old new : Timeline) (a floor start : ℕ) : Type 0 where
  pub least : IsLeastFrom old.project old.bookings a floor start
  pub booked : new ≡ with_booking old a start
  pub within : start ≤ max floor (rest_time old.project old.bookings)

-- activity a can be booked so that it ends by a period: it is not booked yet, and a start fits
pub record CanPlaceBy (line : Timeline) (a end : ℕ) : Type 0 where
  pub activity : IsActivity line.project a
  pub unbooked : IsUnbooked line.bookings a
  pub by : end ≤ MAX_HORIZON
  pub exists : (t : ℕ) × (t + duration line.project a ≤ end) × Fits line.project line.bookings a t

-- it is booked at its latest start that ends it by the period
pub record IsPlacedBy (old new : Timeline) (a end start : ℕ) : Type 0 where
  pub last : IsLastBy old.project old.bookings a end start
  pub booked : new ≡ with_booking old a start
