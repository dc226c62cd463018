-- Schedules: a start for each activity, in order of number.
use Rattle.std.specs.Prelude.{◌≡◌, ℕ, ◌+◌, ◌-◌, ◌≤◌, List, [], ◌∷◌, length, map, slice_index, nat_eq, if◌then◌else◌}
use Rattle.rc_instance.specs.Lists.{numbers}
use Rattle.rc_instance.specs.Project.{Project, activity_count, IsActivity, IsResource, Precedes, duration, capacity_at}
use Rattle.rc_instance.specs.Usage.{Booking, usage, last_finish}
use Rattle.rc_instance.specs.Serial.{serial_bookings}

-- the start of an activity
unfoldable pub start_at : List ℕ → ℕ → ℕ
start_at starts a = slice_index starts (a - 1)

-- the bookings of activities from a on, with these starts
abbrev pub bookings_from : ℕ → List ℕ → List Booking
bookings_from a [] = []
bookings_from a (start ∷ starts) = record { activity = a; start = start } ∷ bookings_from (a + 1) starts

-- a schedule as bookings
abbrev pub bookings_of : List ℕ → List Booking
bookings_of starts = bookings_from 1 starts

-- the greatest finish of a schedule
abbrev pub makespan : Project → List ℕ → ℕ
makespan project starts = last_finish project (bookings_of starts)

-- each activity starts once its direct predecessors have ended, and no capacity is exceeded in any period
pub record IsFeasible (project : Project) (starts : List ℕ) : Type 0 where
  pub count : length starts ≡ activity_count project
  pub precedence : (a b : ℕ) → IsActivity project a → IsActivity project b → Precedes project a b
      → start_at starts a + duration project a ≤ start_at starts b
  pub capacity : (k p : ℕ) → IsResource project k → usage project (bookings_of starts) k p ≤ capacity_at project k p

-- the start of an activity among bookings, or 0 where none names it
abbrev pub start_of : List Booking → ℕ → ℕ
start_of [] a = 0
start_of (booking ∷ bookings) a = if nat_eq booking.activity a then booking.start else start_of bookings a

-- the serial schedule of an order: the start that the scheme gives to each activity
unfoldable pub serial_schedule : Project → List ℕ → List ℕ
serial_schedule project order = map (start_of (serial_bookings project order)) (numbers (activity_count project))
