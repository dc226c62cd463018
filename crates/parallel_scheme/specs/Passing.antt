-- What the scheme knows between its steps.
use Rattle.std.specs.Prelude.{◌≡◌, ℕ, max, ◌+◌, ◌-◌, ◌<◌, ◌≤◌, ◌⊎◌, ◌||◌, Bool, false, not, List, [], ◌∷◌, ◌++◌, length, slice_index, slice_index_or, Option, None, Some, if◌then◌else◌, All}
use Rattle.std.specs.List.{list_all}
use Rattle.rc_instance.specs.Project.{Project, IsActivity, activity_count, horizon}
use Rattle.rc_instance.specs.Usage.{Booking, Fits}
use Rattle.rc_instance.specs.Serial.{serial_bookings}
use Rattle.activity_net.specs.Network.{predecessors_of}
use Rattle.activity_net.specs.Removal.{IsBeginning}
use Rattle.activity_net.specs.Tables.{Shows}
use Rattle.serial_plain.specs.Shown.{ShowsStarts, last_finish_of}
use Rattle.parallel_scheme.specs.declared.progress.Progress.{Progress}
use Rattle.parallel_scheme.specs.Parallel.{CanStart, activities_of}

-- the bookings of a period: they are those of the serial scheme for their activities, they have
-- started by then, and nothing else could have started before
pub record IsReached (project : Project) (bookings : List Booking) (t : ℕ) : Type 0 where
  pub beginning : IsBeginning project (activities_of bookings)
  pub serial : bookings ≡ serial_bookings project (activities_of bookings)
  pub by : All (λ b. b.start ≤ t) bookings
  pub settled : (u a : ℕ) → u < t → CanStart project bookings u a → ⊥

-- an activity can not start before a period
abbrev pub WaitsUntil : Project → List Booking → ℕ → ℕ → Type 0
WaitsUntil project bookings t a = (u : ℕ) → u < t → CanStart project bookings u a → ⊥

-- the tables tell what is booked by a period, and from when on each activity may fit
pub record IsTold (project : Project) (now : ℕ) (bookings : List Booking) (progress : Progress) : Type 0 where
  pub end : progress.end ≡ horizon project + 1
  pub marks : Shows (activity_count project) progress.booked.items (activities_of bookings)
  pub count : length progress.starts ≡ activity_count project
  pub starts : ShowsStarts bookings progress.starts
  pub floors : length progress.floors.items ≡ activity_count project
  pub within : All (λ floor. floor ≤ horizon project) progress.floors.items
  pub misses : (a u : ℕ) → IsActivity project a → now ≤ u
      → u < slice_index progress.floors.items (a - 1) → Fits project bookings a u → ⊥

-- whether a number is marked
abbrev pub is_marked : List Bool → ℕ → Bool
is_marked marks a = slice_index_or marks (a - 1) false

-- the period before which the tables say that an activity can not start; none where it is booked, or
-- a direct predecessor is not
unfoldable pub floor_in : Project → Progress → ℕ → Option ℕ
floor_in project progress a =
    let before = predecessors_of project a in
    if is_marked progress.booked.items a || not (list_all (is_marked progress.booked.items) before)
    then None
    else Some (max (last_finish_of project progress.starts before)
    (slice_index progress.floors.items (a - 1)))

-- an activity was visited in period t: it was booked there, or not at all, and it can not start
-- before the next period
pub record IsVisited (project : Project) (t a : ℕ) (before after : List Booking) (next : ℕ) : Type 0 where
  pub rises : t < next
  pub within : next ≤ horizon project + 1
  pub waits : WaitsUntil project after next a
  pub booked : (after ≡ before)
      ⊎ ((after ≡ before ++ record { activity = a; start = t } ∷ []) × CanStart project before t a)
