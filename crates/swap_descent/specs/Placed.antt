-- What of a list is booked on a line, and what its starts say of the makespan.
use Rattle.std.specs.Prelude.{◌≡◌, ℕ, ◌+◌, ◌<◌, List, length, take, slice_index}
use Rattle.rc_instance.specs.Project.{Project, activity_count}
use Rattle.rc_instance.specs.Calendar.{IsWithinLimits}
use Rattle.rc_instance.specs.Misfit.{HasNoMisfit}
use Rattle.rc_instance.specs.Order.{IsFeasibleList}
use Rattle.rc_instance.specs.Serial.{serial_bookings, serial_start}
use Rattle.activity_net.specs.Network.{Listing}
use Rattle.event_line.specs.Timeline.{Timeline}
use Rattle.serial_plain.specs.Shown.{ShowsStarts}
use Rattle.time_windows.specs.Windows.{tail_of}

-- the first places of a feasible list without misfits are booked by the serial scheme, and shown
pub record IsPlaced (list : Listing) (place : ℕ) (line : Timeline) (starts : List ℕ) : Type 0 where
  pub fits : HasNoMisfit list.network.project
  pub limits : IsWithinLimits list.network.project
  pub feasible : IsFeasibleList list.network.project list.order
  pub project : line.project ≡ list.network.project
  pub booked : line.bookings ≡ serial_bookings list.network.project (take place list.order)
  pub count : length starts ≡ activity_count list.network.project
  pub shown : ShowsStarts line.bookings starts

-- the start at place i and the tail of its activity: no makespan of the order is less
abbrev pub bound_at : Project → List ℕ → ℕ → ℕ
bound_at project order i = serial_start project order i + tail_of project (slice_index order i)

-- the first places do not show yet that the makespan is the limit or more
pub record IsBelow (project : Project) (order : List ℕ) (place limit : ℕ) : Type 0 where
  pub each : (i : ℕ) → i < place → bound_at project order i < limit
