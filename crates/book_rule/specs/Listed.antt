-- The list of a book in the words of its rule. Positions are counted from 0.
-- Resource 4 w + l + 1 stands in lane l of word w of each period.
use Rattle.std.specs.Prelude.{◌≡◌, ℕ, ◌+◌, ◌*◌, ◌/◌, ◌≤◌, List, length, take, slice_index, nat_lt, if◌then◌else◌}
use Rattle.rc_instance.specs.Project.{Project, resource_count, horizon, duration, demand, capacity_at}
use Rattle.rc_instance.specs.Calendar.{IsWithinLimits}
use Rattle.rc_instance.specs.Misfit.{HasNoMisfit}
use Rattle.rc_instance.specs.Order.{IsFeasibleList}
use Rattle.rc_instance.specs.Usage.{Booking, usage, least_start}
use Rattle.rc_instance.specs.Serial.{serial_bookings, serial_start}
use Rattle.activity_net.specs.Network.{Listing, predecessors_of}

abbrev pub project_of : Listing → Project
project_of list = list.network.project

-- how many positions there are
abbrev pub count : Listing → ℕ
count list = length list.order

abbrev pub activity_at : Listing → ℕ → ℕ
activity_at list i = slice_index list.order i

-- the bookings of the serial schedule at the first c positions
abbrev pub booked : Listing → ℕ → List Booking
booked list c = serial_bookings (project_of list) (take c list.order)

-- how many periods the activity at position i takes
unfoldable pub lasts : Listing → ℕ → ℕ
lasts list i = duration (project_of list) (activity_at list i)

-- the start that the serial schedule gives to it
unfoldable pub begins : Listing → ℕ → ℕ
begins list i = serial_start (project_of list) list.order i

-- its least start beside the first c bookings, after those of its predecessors that are among them
unfoldable pub least_of : Listing → ℕ → ℕ → ℕ
least_of list c i = least_start (project_of list) (booked list c) (activity_at list i)

-- how many direct predecessors it has
unfoldable pub before_count : Listing → ℕ → ℕ
before_count list i = length (predecessors_of (project_of list) (activity_at list i))

-- the direct predecessor at place k of their rising order, counted from 0
unfoldable pub before : Listing → ℕ → ℕ → ℕ
before list i k = slice_index (predecessors_of (project_of list) (activity_at list i)) k

-- how many words a period has: one for each four resources
unfoldable pub width : Listing → ℕ
width list = (resource_count (project_of list) + 3) / 4

-- by this period everything has ended
unfoldable pub horizon_of : Listing → ℕ
horizon_of list = horizon (project_of list)

-- a number for the resource that stands in lane l of word w, or 0 where there is none
abbrev pub in_lane : Listing → (ℕ → ℕ) → ℕ → ℕ → ℕ
in_lane list f w l = if nat_lt (4 * w + l) (resource_count (project_of list)) then f (4 * w + l + 1)
    else 0

-- what the activity at position i demands of it
unfoldable pub need : Listing → ℕ → ℕ → ℕ → ℕ
need list i w l = in_lane list (λ k. demand (project_of list) (activity_at list i) k) w l

-- how much of it there is in period p
unfoldable pub room : Listing → ℕ → ℕ → ℕ → ℕ
room list w l p = in_lane list (λ k. capacity_at (project_of list) k p) w l

-- what the first c bookings use of it in period p
unfoldable pub level : Listing → ℕ → ℕ → ℕ → ℕ → ℕ
level list c w l p = in_lane list (λ k. usage (project_of list) (booked list c) k p) w l

-- a list that can be booked: of an instance within all limits, feasible, and no demand is a misfit
pub record IsBookable (list : Listing) : Type 0 where
  pub limits : IsWithinLimits (project_of list)
  pub feasible : IsFeasibleList (project_of list) list.order
  pub fits : HasNoMisfit (project_of list)
