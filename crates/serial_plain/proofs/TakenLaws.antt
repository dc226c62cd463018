-- A step of the serial scheme that is told by its activity.
use Rattle.std.proofs.Common.{◌≡◌, ℕ, ◌-◌, List, length, set, subst, ap, refl}
use Rattle.rc_instance.specs.Project.{Project, IsActivity, activity_count}
use Rattle.rc_instance.specs.Usage.{Booking, IsLeastFrom}
use Rattle.rc_instance.specs.Serial.{serial_start}
use Rattle.rc_instance.proofs.SerialLaws.{serial_more}
use Rattle.activity_net.specs.Network.{predecessors_of}
use Rattle.event_line.specs.Timeline.{Timeline, with_booking}
use Rattle.serial_plain.specs.Shown.{ShowsStarts, last_finish_of}
use Rattle.serial_plain.specs.Steps.{IsStepOf, HasStepped}
use Rattle.serial_plain.proofs.StepLaws.{next_start, next_shown}

-- it is one of the activities
pub step_activity : (project : Project) (order : List ℕ) (position : ℕ) (bookings : List Booking)
    (activity : ℕ) → IsStepOf project order position bookings activity
    → IsActivity project activity
step_activity project order position bookings activity step =
    subst (IsActivity project) step.at (step.feasible.activities position 0 step.within)

-- booked at its least start from the finishes of its predecessors on, it is booked as the scheme does
pub step_taken : (project : Project) (order : List ℕ) (position activity : ℕ)
    (old_line new_line : Timeline) (starts : List ℕ) (t : ℕ)
    → IsStepOf project order position old_line.bookings activity
    → ShowsStarts old_line.bookings starts
    → IsLeastFrom project old_line.bookings activity
    (last_finish_of project starts (predecessors_of project activity)) t
    → new_line ≡ with_booking old_line activity t
    → HasStepped project order position activity old_line new_line starts
    (set starts (activity - 1) t) t
step_taken project order position activity old_line new_line starts t step shown least booked =
    let same : t ≡ serial_start project order position =
    next_start project order position starts t step.feasible step.within
    (rw step.before at shown) (rw (step.before, ← step.at) at least) in
    record {
      start = ap (set starts (activity - 1)) same;
      booked = rw (
        booked,
        same,
        step.before,
        serial_more project order position step.within,
        step.at,
      ) refl;
      answer = same;
    }

-- and once it is written, the schedule shows what is booked
pub step_shown : (project : Project) (order : List ℕ) (position activity : ℕ)
    (old_line new_line : Timeline) (old_starts new_starts : List ℕ) (t : ℕ)
    → IsStepOf project order position old_line.bookings activity
    → length old_starts ≡ activity_count project → ShowsStarts old_line.bookings old_starts
    → HasStepped project order position activity old_line new_line old_starts new_starts t
    → ShowsStarts new_line.bookings new_starts
step_shown project order position activity old_line new_line old_starts new_starts t step count shown
    stepped =
    rw (stepped.booked, stepped.start, ← step.at)
    (next_shown project order position old_starts step.feasible step.within count
    (rw step.before at shown))
