-- What a search over the nodes finds is the start that the definitions ask for.
use Rattle.std.proofs.Common.{◌≡◌, ℕ, max, ◌+◌, ◌-◌, ◌*◌, ◌<◌, ◌≤◌, List, [], ◌∷◌, ◌++◌, length, get_or, sym, ap, ◌∙◌, arith}
use Rattle.rc_instance.specs.declared.limits.TheConstants.{MAX_HORIZON}
use Rattle.rc_instance.specs.Project.{Project, IsActivity, AreDemands, activity_count, duration}
use Rattle.rc_instance.specs.Calendar.{IsWithinLimits}
use Rattle.rc_instance.specs.Usage.{Booking, IsLeastFrom, IsLastBy, finish, last_finish, rest_time}
use Rattle.rc_instance.proofs.LimitLaws.{last_change-le}
use Rattle.event_line.specs.declared.entry.Entry.{Entry}
use Rattle.event_line.specs.Chain.{IsChain, StandsFor, IsLonger}
use Rattle.event_line.specs.Rows.{HasRoomFor, HasRoomFrom, IsBooked}
use Rattle.event_line.specs.Journal.{booking_of, bookings_in, IsEntry, IsMade}
use Rattle.event_line.specs.Timeline.{IsUnbooked, FitsAtRest}
use Rattle.event_line.specs.LineView.{IsShown}
use Rattle.event_line.proofs.JournalLaws.{journal_few, entries_fewer}
use Rattle.event_line.proofs.FitLaws.{room_for_fits, fits_from_span, fits_at_rest}
use Rattle.event_line.proofs.StateLaws.{shown_marked, shown_booked}

-- a start has room that is no later than the floor, or the time of rest
pub rest_has_room : (project : Project) (base : ℕ) (periods : List ℕ) (rows : List (List ℕ))
    (demands : List ℕ)
    (entries : List Entry) (a floor : ℕ)
    → IsShown project base periods rows entries → AreDemands project a demands
    → FitsAtRest project a
    → HasRoomFor periods rows demands (max floor (rest_time project (bookings_in entries)))
    (duration project a)
rest_has_room project base periods rows demands entries a floor shown are fits =
    let bookings = bookings_in entries in
    let t = max floor (rest_time project bookings) in
    room_for_fits project bookings periods rows demands a t
    (shown_marked project base periods rows entries shown) shown.free are
    (fits_at_rest project bookings a t fits (omega arith))

-- a time of rest is within the horizon
pub rest_within : (project : Project) (bookings : List Booking) → IsWithinLimits project
    → last_finish project bookings ≤ MAX_HORIZON → rest_time project bookings ≤ MAX_HORIZON
rest_within project bookings limits ended =
    let change = last_change-le project limits in
    omega arith

-- the least start that has room is the least one that fits
pub least_found : (project : Project) (base : ℕ) (periods : List ℕ) (rows : List (List ℕ))
    (demands : List ℕ)
    (entries : List Entry) (a floor start first last : ℕ)
    → IsShown project base periods rows entries → AreDemands project a demands → IsChain periods
    → floor ≤ start → StandsFor periods first start
    → StandsFor periods last (start + duration project a - 1)
    → HasRoomFrom periods rows demands first last
    → ((t : ℕ) → floor ≤ t → HasRoomFor periods rows demands t (duration project a) → start ≤ t)
    → IsLeastFrom project (bookings_in entries) a floor start
least_found project base periods rows demands entries a floor start first last shown are chain after
    low high room least =
    let bookings = bookings_in entries in
    let marked = shown_marked project base periods rows entries shown in
    record {
      after = after;
      fits = fits_from_span project bookings periods rows demands a start first last marked shown.free
          are chain low high room;
      least = λ t from fits. least t from
          (room_for_fits project bookings periods rows demands a t marked shown.free are fits);
    }

-- the latest start that has room is the latest one that fits
pub last_found : (project : Project) (base : ℕ) (periods : List ℕ) (rows : List (List ℕ))
    (demands : List ℕ)
    (entries : List Entry) (a by start first last : ℕ)
    → IsShown project base periods rows entries → AreDemands project a demands → IsChain periods
    → start + duration project a ≤ by → StandsFor periods first start
    → StandsFor periods last (start + duration project a - 1)
    → HasRoomFrom periods rows demands first last
    → ((t : ℕ) → t + duration project a ≤ by
    → HasRoomFor periods rows demands t (duration project a) → t ≤ start)
    → IsLastBy project (bookings_in entries) a by start
last_found project base periods rows demands entries a by start first last shown are chain ends
    low high room latest =
    let bookings = bookings_in entries in
    let marked = shown_marked project base periods rows entries shown in
    record {
      ends = ends;
      fits = fits_from_span project bookings periods rows demands a start first last marked shown.free
          are chain low high room;
      last = λ t by' fits. latest t by'
          (room_for_fits project bookings periods rows demands a t marked shown.free are fits);
    }

-- there is room for the nodes of one more booking
pub nodes_left : (project : Project) (base room : ℕ) (periods : List ℕ) (rows : List (List ℕ))
    (entries : List Entry) (a : ℕ)
    → IsShown project base periods rows entries → IsActivity project a
    → IsUnbooked (bookings_in entries) a → base + 2 * activity_count project ≤ room
    → length periods + 2 ≤ room
nodes_left project base room periods rows entries a shown activity unbooked enough =
    let few = journal_few project periods base entries shown.journal in
    let fewer = entries_fewer project periods base entries a shown.journal shown.once activity
    unbooked in
    let nodes = shown.nodes in
    omega arith

-- a booking that was made is shown
pub shown_placed : (project : Project) (base : ℕ) (periods : List ℕ) (rows : List (List ℕ))
    (periods' : List ℕ) (rows' : List (List ℕ)) (demands : List ℕ)
    (entries : List Entry) (a start : ℕ) (entry : Entry)
    → IsShown project base periods rows entries → AreDemands project a demands
    → IsActivity project a → IsUnbooked (bookings_in entries) a → 0 < duration project a
    → IsLonger periods periods' → length periods' ≤ length periods + 2
    → IsBooked periods rows periods' rows' demands start (start + duration project a)
    → IsMade periods' a start (duration project a) entry
    → IsShown project base periods' rows' (entries ++ entry ∷ [])
shown_placed project base periods rows periods' rows' demands entries a start entry shown are
    activity unbooked runs longer few booked made =
    let same = made.activity_is in
    let first = made.first in
    let end = made.end in
    let nodes = made.nodes in
    let from = made.start_is in
    let is : IsEntry project periods' entry = record {
      activity = rw same activity;
      first = omega arith;
      end = omega arith;
      start = λ _. made.begins ∙ sym from;
      finish = λ _. made.ends ∙ rw (same, from);
      idle = λ none. Prim.absurd (omega (arith, ap (duration project) same));
    } in
    shown_booked project base periods rows periods' rows' demands entries entry start
    (start + duration project a) shown (rw same are) booked longer few nodes from (rw (same, from)) is
    (rw same unbooked)
