-- One step of the serial scheme beside a schedule that shows what is booked.
use Rattle.std.proofs.Common.{◌≡◌, ℕ, ◌+◌, ◌-◌, ◌<◌, ◌≤◌, List, ◌++◌, length, take, set, sym, ap, ◌∙◌, arith, slice_index}
use Rattle.std.specs.List.{All, Contains}
use Rattle.std.proofs.lemmas.List.{take_all, take-append-le, length-take-le}
use Rattle.std.proofs.lemmas.List.Elements.{All-weaker}
use Rattle.rc_instance.specs.declared.limits.TheConstants.{MAX_HORIZON}
use Rattle.rc_instance.specs.Project.{Project, IsActivity, Precedes, activity_count}
use Rattle.rc_instance.specs.Calendar.{IsWithinLimits}
use Rattle.rc_instance.specs.Usage.{Booking, IsLeastFrom, last_finish, ready_time}
use Rattle.rc_instance.specs.Serial.{serial_bookings, serial_start}
use Rattle.rc_instance.specs.Order.{IsFeasibleList}
use Rattle.rc_instance.specs.Schedule.{serial_schedule}
use Rattle.rc_instance.proofs.LimitLaws.{last_change-le}
use Rattle.rc_instance.proofs.UsageLaws.{ready_time-le-last_finish}
use Rattle.rc_instance.proofs.SerialLaws.{serial_activities, serial_more, serial-take, serial_start-exact, length-serial, get_or-serial}
use Rattle.rc_instance.proofs.FeasibleLaws.{last_finish-feasible_list, serial_schedule_shown}
use Rattle.activity_net.specs.Network.{predecessors_of}
use Rattle.serial_plain.specs.Shown.{ShowsStarts, finish_at, last_finish_of}
use Rattle.serial_plain.proofs.ShownLaws.{activities_of, finish_at-le-ready_time, ready_time-shown, ShowsStarts-push, booked_others}

-- the direct predecessors of the activity at place c are booked before it
predecessor_booked : (project : Project) (order : List ℕ) (c p : ℕ) → IsFeasibleList project order
    → c < length order → IsActivity project p → Precedes project p (slice_index order c)
    → Contains (activities_of (serial_bookings project (take c order))) p
predecessor_booked project order c p list within activity precedes =
    rw (serial_activities project (take c order)) (list.after c p within activity precedes)

-- what is booked of the first places ends by the greatest horizon
pub booked_within : (project : Project) (order : List ℕ) (c : ℕ) → IsWithinLimits project
    → IsFeasibleList project order
    → last_finish project (serial_bookings project (take c order)) ≤ MAX_HORIZON
booked_within project order c limits list =
    omega (
      arith,
      last_finish-feasible_list project order c list,
      last_change-le project limits,
      limits.durations,
    )

-- so does each direct predecessor of the activity at place c
pub predecessors_within : (project : Project) (order : List ℕ) (c : ℕ) (starts : List ℕ)
    → IsWithinLimits project → IsFeasibleList project order → c < length order
    → ShowsStarts (serial_bookings project (take c order)) starts
    → All (λ p. finish_at project starts p ≤ MAX_HORIZON)
    (predecessors_of project (slice_index order c))
predecessors_within project order c starts limits list within shown =
    let bookings = serial_bookings project (take c order) in
    let a = slice_index order c in
    All-weaker (λ p. finish_at project starts p ≤ ready_time project bookings a)
    (λ p. finish_at project starts p ≤ MAX_HORIZON)
    (λ p ended. omega (
      arith,
      ended,
      ready_time-le-last_finish project bookings a,
      booked_within project order c limits list,
    ))
    (predecessors_of project a)
    (finish_at-le-ready_time project bookings starts a
    (λ p is before. predecessor_booked project order c p list within is before) shown)

-- its ready time is the greatest of their finishes
pub next_ready_time : (project : Project) (order : List ℕ) (c : ℕ) (starts : List ℕ)
    → IsFeasibleList project order → c < length order
    → ShowsStarts (serial_bookings project (take c order)) starts
    → last_finish_of project starts (predecessors_of project (slice_index order c))
    ≡ ready_time project (serial_bookings project (take c order)) (slice_index order c)
next_ready_time project order c starts list within shown =
    let bookings = serial_bookings project (take c order) in
    ready_time-shown project bookings starts (slice_index order c)
    (λ i d inside. (booked_others project order c list within i d inside).0)
    (λ p is before. predecessor_booked project order c p list within is before) shown

-- so this is within the greatest horizon too
pub next_within : (project : Project) (order : List ℕ) (c : ℕ) (starts : List ℕ)
    → IsWithinLimits project → IsFeasibleList project order → c < length order
    → ShowsStarts (serial_bookings project (take c order)) starts
    → last_finish_of project starts (predecessors_of project (slice_index order c)) ≤ MAX_HORIZON
next_within project order c starts limits list within shown =
    omega (
      arith,
      next_ready_time project order c starts list within shown,
      ready_time-le-last_finish project (serial_bookings project (take c order))
          (slice_index order c),
      booked_within project order c limits list,
    )

-- its least start from the greatest of their finishes on is the one that the scheme gives
pub next_start : (project : Project) (order : List ℕ) (c : ℕ) (starts : List ℕ) (t : ℕ)
    → IsFeasibleList project order → c < length order
    → ShowsStarts (serial_bookings project (take c order)) starts
    → IsLeastFrom project (serial_bookings project (take c order)) (slice_index order c)
    (last_finish_of project starts (predecessors_of project (slice_index order c))) t
    → t ≡ serial_start project order c
next_start project order c starts t list within shown least =
    sym (serial_start-exact project order c t
    (rw (next_ready_time project order c starts list within shown) at least))

-- once its start is written, what is booked of one place more is shown
pub next_shown : (project : Project) (order : List ℕ) (c : ℕ) (starts : List ℕ)
    → IsFeasibleList project order → c < length order → length starts ≡ activity_count project
    → ShowsStarts (serial_bookings project (take c order)) starts
    → ShowsStarts (serial_bookings project (take (c + 1) order))
    (set starts (slice_index order c - 1) (serial_start project order c))
next_shown project order c starts list within count shown =
    let a = slice_index order c in
    let activity = list.activities c 0 within in
    let others = booked_others project order c list within in
    rw (serial_more project order c within)
    (ShowsStarts-push (serial_bookings project (take c order)) starts a
    (serial_start project order c)
    (λ i d inside. ((others i d inside).0.0, (others i d inside).1)) activity.0
    (omega (arith, count, activity.1)) shown)

-- once all places are booked, the starts are the serial schedule
pub all_shown : (project : Project) (order : List ℕ) (c : ℕ) (starts : List ℕ)
    → IsFeasibleList project order → length order ≤ c → length starts ≡ activity_count project
    → ShowsStarts (serial_bookings project (take c order)) starts
    → starts ≡ serial_schedule project order
all_shown project order c starts list all count shown =
    let whole : ShowsStarts (serial_bookings project order) starts =
    rw (take_all c order all) at shown in
    serial_schedule_shown project order starts list count
    (λ i within.
    let d : Booking = record { activity = 0; start = 0 } in
    let at = get_or-serial project order i d within in
    rw at at (whole i d (omega (arith, length-serial project order))))

-- without the bookings after the first c, it is what is booked of the first c places
pub take-serial_bookings : (project : Project) (order : List ℕ) (c : ℕ) → c ≤ length order
    → take c (serial_bookings project order) ≡ serial_bookings project (take c order)
take-serial_bookings project order c within =
    let first = serial_bookings project (take c order) in
    let long : length first ≡ c =
    length-serial project (take c order) ∙ length-take-le c order within in
    let more = serial-take project order c (length order) within in
    let whole : serial_bookings project order ≡ first ++ more.0 =
    ap (serial_bookings project) (sym (take_all (length order) order (omega arith))) ∙ more.1 in
    ap (take c) whole
    ∙ (take-append-le c first more.0 (omega arith) ∙ take_all c first (omega arith))
