-- The parallel schedule generation scheme (Kolisch 1996): it goes through the periods, and books in
-- each what can start.
use Rattle.std.specs.Prelude.{ℕ, zero, suc, ◌+◌, ◌≤◌, ◌&&◌, Bool, not, List, [], ◌∷◌, ◌++◌, length, map, nat_le, Option, None, Some}
use Rattle.std.specs.List.{find, list_all}
use Rattle.rc_instance.specs.Lists.{names, numbers}
use Rattle.rc_instance.specs.Project.{Project, activity_count, horizon}
use Rattle.rc_instance.specs.Usage.{Booking, Fits, ready_time, fits}
use Rattle.rc_instance.specs.Schedule.{start_of}
use Rattle.activity_net.specs.Network.{predecessors_of}
use Rattle.activity_net.specs.Laws.{IsEligible}

-- the activities of bookings
abbrev pub activities_of : List Booking → List ℕ
activities_of bookings = map (λ (b : Booking). b.activity) bookings

-- an activity can start at t beside the bookings: it is not booked, its direct predecessors are and
-- have ended by t, and it fits
pub record CanStart (project : Project) (bookings : List Booking) (t a : ℕ) : Type 0 where
  pub eligible : IsEligible project (activities_of bookings) a
  pub ready : ready_time project bookings a ≤ t
  pub fits : Fits project bookings a t

-- the same as it is computed
unfoldable pub can_start : Project → List Booking → ℕ → ℕ → Bool
can_start project bookings t a =
    let booked = activities_of bookings in
    not (names booked a) && (list_all (names booked) (predecessors_of project a)
    && (nat_le (ready_time project bookings a) t && fits project bookings a t))

-- the bookings with one more at t, if an activity is found
abbrev pub with_found : List Booking → ℕ → Option ℕ → List Booking
with_found bookings t None = bookings
with_found bookings t (Some a) = bookings ++ record { activity = a; start = t } ∷ []

-- so many times the first of the order that can start at t is booked there
unfoldable pub booked_at : Project → List ℕ → ℕ → ℕ → List Booking → List Booking
booked_at project order t zero bookings = bookings
booked_at project order t (suc times) bookings = booked_at project order t times
    (with_found bookings t (find (can_start project bookings t) order))

-- what is booked before a period: in each period as many as there are activities, one by one
unfoldable pub booked_before : Project → List ℕ → ℕ → List Booking
booked_before project order zero = []
booked_before project order (suc t) =
    booked_at project order t (length order) (booked_before project order t)

-- what the scheme books: after the horizon nothing is left
unfoldable pub parallel_bookings : Project → List ℕ → List Booking
parallel_bookings project order = booked_before project order (horizon project + 1)

-- the parallel schedule of an order: the start that the scheme gives to each activity
unfoldable pub parallel_schedule : Project → List ℕ → List ℕ
parallel_schedule project order =
    map (start_of (parallel_bookings project order)) (numbers (activity_count project))
