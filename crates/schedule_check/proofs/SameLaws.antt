-- A plan and the schedule of its starts: the same bookings, in another order.
use Rattle.std.proofs.Common.{◌≡◌, ◌≢◌, ℕ, ◌-◌, ◌<◌, nat_lt, None, Some, List, [], length, get_or, map, sym, refl, ap, ◌∙◌, subst₂, arith, if◌then◌else◌}
use Rattle.std.specs.List.{AllPairs, range_with_len}
use Rattle.std.specs.List.Sorted.{IsPermutation}
use Rattle.std.proofs.lemmas.List.{ext_get_or, get_or-map, length-map}
use Rattle.std.proofs.lemmas.List.Elements.{All-get_or}
use Rattle.std.proofs.lemmas.List.FromFn.{get_or-map-range_with_len, length-map-range_with_len}
use Rattle.std.proofs.lemmas.List.Sorted.{IsPermutation-map, sum_by-IsPermutation}
use Rattle.rc_instance.specs.Lists.{first_of, numbers}
use Rattle.rc_instance.specs.Project.{Project, IsActivity, activity_count, resource_count, capacity_at}
use Rattle.rc_instance.specs.Usage.{Booking, last_finish, use_of}
use Rattle.rc_instance.specs.Schedule.{bookings_of, start_at, start_of}
use Rattle.rc_instance.proofs.FeasibleLaws.{bookings_from-map, last_finish-IsPermutation}
use Rattle.rc_instance.proofs.ListLaws.{neither}
use Rattle.rc_instance.proofs.ScheduleLaws.{start_of-booked, start_of-bookings_of}
use Rattle.schedule_check.specs.declared.violation.Violation.TheVariants.{OverCapacity}
use Rattle.schedule_check.specs.Laws.{starts_of}
use Rattle.schedule_check.specs.Violation.{early_after, early_at, first_early, first_missing, first_name_violation, first_over, first_time_violation, first_wrong_name, is_early, over_at, over_of}
use Rattle.schedule_check.proofs.FirstLaws.{first_of-same}
use Rattle.schedule_check.proofs.NameLaws.{AreOnce-right, IsPermutation-booked, booked}

-- an activity with the start that bookings give it
abbrev booking_by : List Booking → ℕ → Booking
booking_by bookings a = record { activity = a; start = start_of bookings a }

-- bookings of distinct activities are those of their activities with their starts
own_bookings : (bookings : List Booking) → AllPairs (λ a b. a ≢ b) (booked bookings)
    → map (booking_by bookings) (booked bookings) ≡ bookings
own_bookings bookings once =
    let activity = λ (b : Booking). b.activity in
    let d : Booking = record { activity = 0; start = 0 } in
    let long = length-map bookings activity in
    let apart : AllPairs (λ a b. a.activity ≢ b.activity) bookings =
    λ i j e below within.
    rw (get_or-map activity bookings i e 0 (omega arith), get_or-map activity bookings j e 0 within)
    at
    (once i j 0 below (omega arith)) in
    ext_get_or d (map (booking_by bookings) (booked bookings)) bookings
    (length-map (booked bookings) (booking_by bookings) ∙ long)
    (λ i within.
    let inside : i < length bookings =
    omega (arith, length-map (booked bookings) (booking_by bookings)) in
    get_or-map (booking_by bookings) (booked bookings) i 0 d (omega arith)
    ∙ (ap (booking_by bookings) (get_or-map activity bookings i d 0 inside)
    ∙ ap (λ (t : ℕ). let b : Booking =
    record { activity = (get_or bookings i d).activity; start = t } in b)
    (All-get_or (λ b. start_of bookings b.activity ≡ b.start) bookings i d inside
    (start_of-booked bookings apart))))

-- a plan without a wrong or missing name books what the schedule of its starts books, in some order
pub IsPermutation-starts_of : (project : Project) (bookings : List Booking)
    → first_name_violation (activity_count project) bookings ≡ None
    → IsPermutation bookings (bookings_of (starts_of project bookings))
IsPermutation-starts_of project bookings none =
    let count = activity_count project in
    let split = neither (first_wrong_name count [] bookings) (first_missing count bookings) none in
    let are = AreOnce-right count bookings split.0 in
    let moved = IsPermutation-map (booking_by bookings) (booked bookings) (numbers count)
    (IsPermutation-booked count bookings are split.1) in
    subst₂ IsPermutation (own_bookings bookings are.once)
    (sym (bookings_from-map (start_of bookings) count 1)) moved

-- bookings in another order have the same first period in which too much is used
over_of-IsPermutation : (project : Project) (xs ys : List Booking) (p k : ℕ) → IsPermutation xs ys
    → over_of project xs p k ≡ over_of project ys p k
unfolding over_of
over_of-IsPermutation project xs ys p k moved =
    ap (λ (used : ℕ). if nat_lt (capacity_at project k p) used then Some
    (OverCapacity k p used (capacity_at project k p)) else None)
    (sym (sum_by-IsPermutation (use_of project k p) xs ys moved))

pub first_over-IsPermutation : (project : Project) (xs ys : List Booking) → IsPermutation xs ys
    → first_over project xs ≡ first_over project ys
unfolding first_over over_at
first_over-IsPermutation project xs ys moved =
    ap (λ (m : ℕ). first_of (over_at project xs) (range_with_len 0 m))
    (last_finish-IsPermutation project xs ys moved)
    ∙ first_of-same (over_at project xs) (over_at project ys) 0 (last_finish project ys)
    (λ p low high. first_of-same (over_of project xs p) (over_of project ys p) 1
    (resource_count project)
    (λ k from below. over_of-IsPermutation project xs ys p k moved))

-- the schedule of the starts of a plan gives each activity its start in the plan
pub start_of-starts_of : (project : Project) (bookings : List Booking) (a : ℕ)
    → IsActivity project a
    → start_of (bookings_of (starts_of project bookings)) a ≡ start_of bookings a
unfolding start_at
start_of-starts_of project bookings a activity =
    let count = activity_count project in
    let long = length-map-range_with_len (start_of bookings) 1 count in
    start_of-bookings_of (starts_of project bookings) a activity.0 (omega (arith, activity.1))
    ∙ get_or-map-range_with_len (start_of bookings) 1 count (a - 1) a 0
    (omega (arith, activity.0, activity.1)) (omega (arith, activity.0))

-- so the same activity is the first that is too early
pub first_early-starts_of : (project : Project) (bookings : List Booking)
    → first_early project (bookings_of (starts_of project bookings)) ≡ first_early project bookings
unfolding first_early early_at is_early
first_early-starts_of project bookings =
    let count = activity_count project in
    let schedule = bookings_of (starts_of project bookings) in
    first_of-same (early_at project schedule) (early_at project bookings) 1 count
    (λ b low high. first_of-same (early_after project schedule b)
    (early_after project bookings b) 1 count
    (λ a from below.
    rw (
      start_of-starts_of project bookings b
          (low, omega arith),
      start_of-starts_of project bookings a (from, omega arith),
    ) refl))

-- a plan without a wrong or missing name has the first violation in time of the schedule of its
-- starts
pub first_time_violation-starts_of : (project : Project) (bookings : List Booking)
    → first_name_violation (activity_count project) bookings ≡ None
    → first_time_violation project (bookings_of (starts_of project bookings))
    ≡ first_time_violation project bookings
first_time_violation-starts_of project bookings none =
    let moved = IsPermutation-starts_of project bookings none in
    rw (
      first_early-starts_of project bookings,
      first_over-IsPermutation project bookings (bookings_of (starts_of project bookings)) moved,
    )
    refl
