-- What the serial scheme books, one activity after the other.
use Rattle.std.proofs.Common.{◌≡◌, ℕ, ◌+◌, ◌<◌, ◌≤◌, List, [], ◌∷◌, ◌++◌, length, get_or, take, drop, map, sym, ap, ap₂, ◌∙◌, get_or-take, arith, append_assoc, append-nil, take-append-drop, take-take, take_all, slice_index}
use Rattle.std.specs.List.{All, fold, sum_by}
use Rattle.std.proofs.lemmas.Bool.Decides.{nat_tests}
use Rattle.std.proofs.lemmas.List.{map_push, length-map, get_or_at, length-take-le}
use Rattle.std.proofs.lemmas.List.Elements.{All-head, All-tail, All-get_or}
use Rattle.std.proofs.lemmas.List.Sums.{fold_more, fold-append, sum_by-cons}
use Rattle.rc_instance.specs.Project.{Project, IsActivity, duration, capacity_at, last_change}
use Rattle.rc_instance.specs.Misfit.{HasNoMisfit}
use Rattle.rc_instance.specs.Usage.{Booking, Fits, IsLeast, use_of, usage, last_finish, rest_time, least_start}
use Rattle.rc_instance.specs.Serial.{with_next, serial_bookings, serial_start}
use Rattle.rc_instance.specs.Laws.{IsWithinCapacity}
use Rattle.rc_instance.proofs.UsageLaws.{usage_push, last_finish_push}
use Rattle.rc_instance.proofs.StartLaws.{least_start-is, least_start-exact, least_start-le, least_start-later}

-- the booking of the activity at place i of the order
abbrev pub serial_booking : Project → List ℕ → ℕ → Booking
serial_booking project order i =
    record { activity = slice_index order i; start = serial_start project order i }

-- one step of the scheme: it books the activity at place i
pub serial_more : (project : Project) (order : List ℕ) (i : ℕ) → i < length order
    → serial_bookings project (take (i + 1) order)
    ≡ serial_bookings project (take i order) ++ serial_booking project order i ∷ []
unfolding serial_bookings
serial_more project order i h = fold_more (with_next project) [] order i 0 h

-- the scheme leaves what is booked, and books more after it
booked_more : (project : Project) (order : List ℕ) (bookings : List Booking)
    → (more : List Booking) × (fold (with_next project) bookings order ≡ bookings ++ more)
booked_more project [] bookings = ([], sym (append-nil bookings))
booked_more project (a ∷ order) bookings =
    let h = booked_more project order (with_next project bookings a) in (
      record { activity = a; start = least_start project bookings a } ∷ h.0,
      h.1
          ∙ append_assoc bookings _ h.0,
    )

-- what is booked of two orders after one another begins with what is booked of the first
pub serial-append : (project : Project) (xs ys : List ℕ)
    → (more : List Booking)
    × (serial_bookings project (xs ++ ys) ≡ serial_bookings project xs ++ more)
unfolding serial_bookings
serial-append project xs ys =
    let h = booked_more project ys (serial_bookings project xs) in
    (h.0, fold-append (with_next project) [] xs ys ∙ h.1)

-- what is booked of the first c places stands first in what is booked of the first i
pub serial-take : (project : Project) (order : List ℕ) (c i : ℕ) → c ≤ i
    → (more : List Booking)
    × (serial_bookings project (take i order) ≡ serial_bookings project (take c order) ++ more)
serial-take project order c i le =
    let h = serial-append project (take c order) (drop c (take i order)) in
    let split : take i order ≡ take c order ++ drop c (take i order) =
    sym (ap (λ xs. xs ++ drop c (take i order)) (sym (take-take c i order le))
    ∙ take-append-drop c (take i order)) in
    (h.0, ap (serial_bookings project) split ∙ h.1)

-- the activities of what is booked after bookings
activities_booked : (project : Project) (order : List ℕ) (bookings : List Booking)
    → map (λ (b : Booking). b.activity) (fold (with_next project) bookings order)
    ≡ map (λ (b : Booking). b.activity) bookings ++ order
activities_booked project [] bookings = sym (append-nil _)
activities_booked project (a ∷ order) bookings =
    activities_booked project order (with_next project bookings a)
    ∙ (ap (λ xs. xs ++ order) (map_push (λ (b : Booking). b.activity) bookings _)
    ∙ append_assoc _ (a ∷ []) order)

-- the scheme books the activities of the order, in its order
pub serial_activities : (project : Project) (order : List ℕ)
    → map (λ (b : Booking). b.activity) (serial_bookings project order) ≡ order
unfolding serial_bookings
serial_activities project order = activities_booked project order []

-- it books as many activities as the order has
pub length-serial : (project : Project) (order : List ℕ)
    → length (serial_bookings project order) ≡ length order
length-serial project order =
    sym (length-map (serial_bookings project order) (λ (b : Booking). b.activity))
    ∙ ap length (serial_activities project order)

-- the booking at place i
pub get_or-serial : (project : Project) (order : List ℕ) (i : ℕ) (d : Booking) → i < length order
    → get_or (serial_bookings project order) i d ≡ serial_booking project order i
get_or-serial project order i d h =
    let rest = serial-take project order (i + 1) (length order) (omega arith) in
    let e : serial_bookings project order
    ≡ serial_bookings project (take i order) ++ serial_booking project order i ∷ rest.0 =
    ap (serial_bookings project) (sym (take_all (length order) order (omega arith)))
    ∙ (rest.1 ∙ (ap (λ xs. xs ++ rest.0) (serial_more project order i h) ∙ append_assoc _ _ rest.0))
    in
    rw e (get_or_at (serial_bookings project (take i order)) (serial_booking project order i) rest.0
    d i
    (length-serial project (take i order) ∙ length-take-le i order (omega arith)))

-- the booking of a place is the same in each longer part of the order
pub serial_booking-take : (project : Project) (order : List ℕ) (i n : ℕ) → i < n
    → serial_booking project (take n order) i ≡ serial_booking project order i
serial_booking-take project order i n below =
    ap₂ (λ (xs : List ℕ) (a : ℕ). let b : Booking =
    record { activity = a; start = least_start project (serial_bookings project xs) a } in b)
    (take-take i n order (omega arith)) (get_or-take n order i 0 below)

-- the start of a later place is at or after the least start beside the bookings of the first c
-- places
pub serial_start-later : (project : Project) (order : List ℕ) (c i : ℕ) → HasNoMisfit project
    → All (IsActivity project) order → c ≤ i → i < length order
    → least_start project (serial_bookings project (take c order)) (slice_index order i)
    ≤ serial_start project order i
serial_start-later project order c i none activities le within =
    let more = serial-take project order c i le in
    rw more.1 (least_start-later project (serial_bookings project (take c order)) more.0
    (slice_index order i) none
    (All-get_or (IsActivity project) order i 0 within activities))

-- the start of a place is the least one beside the bookings of the places before it
pub serial_start-is : (project : Project) (order : List ℕ) (i : ℕ) → HasNoMisfit project
    → All (IsActivity project) order → i < length order
    → IsLeast project (serial_bookings project (take i order)) (slice_index order i)
    (serial_start project order i)
serial_start-is project order i none activities within =
    least_start-is project (serial_bookings project (take i order)) (slice_index order i) none
    (All-get_or (IsActivity project) order i 0 within activities)

-- a start of a place that is the least one beside them is the one that the scheme gives
pub serial_start-exact : (project : Project) (order : List ℕ) (i t : ℕ)
    → IsLeast project (serial_bookings project (take i order)) (slice_index order i) t
    → serial_start project order i ≡ t
serial_start-exact project order i t =
    least_start-exact project (serial_bookings project (take i order)) (slice_index order i) t

-- no bookings exceed no capacity
pub IsWithinCapacity-none : (project : Project) → IsWithinCapacity project []
IsWithinCapacity-none project = record { within = λ k p resource. omega arith }

-- one more booking that fits exceeds no capacity
pub IsWithinCapacity_push : (project : Project) (bookings : List Booking) (booking : Booking)
    → IsWithinCapacity project bookings → Fits project bookings booking.activity booking.start
    → IsWithinCapacity project (bookings ++ booking ∷ [])
IsWithinCapacity_push project bookings booking before fits = record {
  within = λ k p resource.
      let room = before.within k p resource in
      let here = fits.within k p resource in
      let e = usage_push project bookings booking k p in
      let fine : usage project bookings k p + use_of project k p booking ≤ capacity_at project k p =
      grind (arith, nat_tests) in
      omega arith;
}

-- what is booked after bookings within capacity is within capacity
booked_within : (project : Project) (order : List ℕ) (bookings : List Booking) → HasNoMisfit project
    → All (IsActivity project) order → IsWithinCapacity project bookings
    → IsWithinCapacity project (fold (with_next project) bookings order)
booked_within project [] bookings none activities within = within
booked_within project (a ∷ order) bookings none activities within =
    let least = least_start-is project bookings a none
    (All-head (IsActivity project) a order activities) in
    booked_within project order (with_next project bookings a) none
    (All-tail (IsActivity project) a order activities)
    (IsWithinCapacity_push project bookings _ within least.fits)

-- the scheme exceeds no capacity
pub serial_within : (project : Project) (order : List ℕ) → HasNoMisfit project
    → All (IsActivity project) order
    → IsWithinCapacity project (serial_bookings project order)
unfolding serial_bookings
serial_within project order none activities =
    booked_within project order [] none activities (IsWithinCapacity-none project)

-- what is booked after bookings ends by their time of rest, and all durations after it
booked_ends : (project : Project) (order : List ℕ) (bookings : List Booking)
    → rest_time project (fold (with_next project) bookings order)
    ≤ rest_time project bookings + sum_by (duration project) order
booked_ends project [] bookings = omega arith
booked_ends project (a ∷ order) bookings =
    let next : Booking = record { activity = a; start = least_start project bookings a } in
    omega (
      arith,
      booked_ends project order (with_next project bookings a),
      sum_by-cons (duration project) a order,
      last_finish_push project bookings next,
      least_start-le project bookings a,
    )

-- the scheme ends by the last change, and all durations of the order after it
pub last_finish-serial : (project : Project) (order : List ℕ)
    → last_finish project (serial_bookings project order)
    ≤ last_change project + sum_by (duration project) order
unfolding serial_bookings
last_finish-serial project order = omega (arith, booked_ends project order [])

-- the activity at place i ends by the last change, and the durations up to its own after it
pub finish-serial_start : (project : Project) (order : List ℕ) (i : ℕ) → i < length order
    → serial_start project order i + duration project (slice_index order i)
    ≤ last_change project + sum_by (duration project) (take (i + 1) order)
finish-serial_start project order i within =
    let e = ap (last_finish project) (serial_more project order i within) in
    omega (
      arith,
      last_finish-serial project (take (i + 1) order),
      last_finish_push project (serial_bookings project (take i order))
          (serial_booking project order i),
    )
