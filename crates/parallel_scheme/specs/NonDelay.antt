-- Schedules that let nothing wait that could run.
use Rattle.std.specs.Prelude.{ℕ, ◌+◌, ◌<◌, ◌≤◌, List, nat_le}
use Rattle.std.specs.List.{filter}
use Rattle.rc_instance.specs.Project.{Project, IsActivity, Precedes, duration}
use Rattle.rc_instance.specs.Usage.{Booking, Fits}
use Rattle.rc_instance.specs.Schedule.{start_at, bookings_of}

-- the bookings that start by a period
abbrev pub started_by : ℕ → List Booking → List Booking
started_by t bookings = filter (λ booking. nat_le booking.start t) bookings

-- before its start, once its direct predecessors have ended, no activity fits beside those that have
-- started
pub record IsNonDelay (project : Project) (starts : List ℕ) : Type 0 where
  pub each : (a t : ℕ) → IsActivity project a → t < start_at starts a
      → ((p : ℕ) → IsActivity project p → Precedes project p a
      → start_at starts p + duration project p ≤ t)
      → Fits project (started_by t (bookings_of starts)) a t → ⊥
