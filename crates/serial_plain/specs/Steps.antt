-- One step of the serial scheme, told by its activity: the list need not be whole yet.
use Rattle.std.specs.Prelude.{◌≡◌, ℕ, ◌+◌, ◌-◌, ◌<◌, List, length, take, slice_index, slice_set}
use Rattle.rc_instance.specs.Project.{Project}
use Rattle.rc_instance.specs.Usage.{Booking}
use Rattle.rc_instance.specs.Serial.{serial_bookings, serial_start}
use Rattle.rc_instance.specs.Order.{IsFeasibleList}
use Rattle.event_line.specs.Timeline.{Timeline}

-- the activity stands at a position of a feasible list, and what stands before it is booked
pub record IsStepOf (project : Project) (order : List ℕ) (position : ℕ) (bookings : List Booking)
    (activity : ℕ) : Type 0 where
  pub feasible : IsFeasibleList project order
  pub within : position < length order
  pub at : slice_index order position ≡ activity
  pub before : bookings ≡ serial_bookings project (take position order)

-- there is such a list and such a position
pub record IsNext (project : Project) (bookings : List Booking) (activity : ℕ) : Type 0 where
  pub order : List ℕ
  pub position : ℕ
  pub step : IsStepOf project order position bookings activity

-- the scheme's step at a position of an order: the start that it gives is answered and written, and
-- what it books of one place more is booked
pub record HasStepped (project : Project) (order : List ℕ) (position activity : ℕ)
    (old_line new_line : Timeline) (old_starts new_starts : List ℕ) (result : ℕ) : Type 0 where
  pub start : new_starts
      ≡ slice_set old_starts (activity - 1) (serial_start project order position)
  pub booked : new_line
      ≡ record old_line { bookings = serial_bookings project (take (position + 1) order) }
  pub answer : result ≡ serial_start project order position
