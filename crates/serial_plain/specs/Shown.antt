-- Bookings that a schedule shows, and the finishes that it tells.
use Rattle.std.specs.Prelude.{◌≡◌, ℕ, ◌+◌, List, map, All}
use Rattle.rc_instance.specs.Lists.{greatest}
use Rattle.rc_instance.specs.Project.{Project, duration}
use Rattle.rc_instance.specs.Usage.{Booking}
use Rattle.rc_instance.specs.Schedule.{start_at}

-- each booked activity has the start of its booking
abbrev pub ShowsStarts : List Booking → List ℕ → Type 0
ShowsStarts bookings starts =
    All (λ booking. start_at starts booking.activity ≡ booking.start) bookings

-- the first period in which an activity of a schedule no longer runs
abbrev pub finish_at : Project → List ℕ → ℕ → ℕ
finish_at project starts a = start_at starts a + duration project a

-- the greatest finish of some activities of a schedule, or 0
abbrev pub last_finish_of : Project → List ℕ → List ℕ → ℕ
last_finish_of project starts activities = greatest (map (finish_at project starts) activities)
