-- The serial schedule of a feasible list is feasible, and ends by the horizon.
use Rattle.std.proofs.Common.{◌≡◌, ◌≢◌, ℕ, zero, suc, ◌+◌, ◌-◌, ◌<◌, ◌≤◌, List, ◌∷◌, length, get_or, take, set, map, sym, refl, ap, ◌∙◌, subst, subst₂, inl, inr, arith, length-take-le, slice_index}
use Rattle.std.specs.List.{All, AllPairs, range_with_len}
use Rattle.std.specs.List.Sorted.{IsPermutation}
use Rattle.std.proofs.lemmas.Bool.{cases_eq}
use Rattle.std.proofs.lemmas.List.{get_or-map, length-map, ext_get_or}
use Rattle.std.proofs.lemmas.List.Elements.{All-get_or, All-take}
use Rattle.std.proofs.lemmas.List.FromFn.{length-map-range_with_len, get_or-map-range_with_len}
use Rattle.std.proofs.lemmas.List.Sorted.{IsPermutation-map, All-permutation, IsPermutation-sym, sum_by-IsPermutation}
use Rattle.rc_instance.specs.Lists.{numbers}
use Rattle.rc_instance.specs.Project.{Project, activity_count, IsActivity, duration, horizon, Precedes}
use Rattle.rc_instance.specs.Misfit.{HasNoMisfit}
use Rattle.rc_instance.specs.Usage.{Booking, finish, usage, use_of, last_finish, ready_time}
use Rattle.rc_instance.specs.Serial.{serial_bookings, serial_start}
use Rattle.rc_instance.specs.Order.{IsFeasibleList}
use Rattle.rc_instance.specs.Schedule.{start_at, bookings_from, bookings_of, makespan, start_of, serial_schedule, IsFeasible}
use Rattle.rc_instance.proofs.UsageLaws.{finish-le-last_finish, last_finish-le, finish-le-ready_time}
use Rattle.rc_instance.proofs.StartLaws.{least_start-after}
use Rattle.rc_instance.proofs.SerialLaws.{serial_booking, length-serial, get_or-serial, serial_booking-take, serial_within, last_finish-serial, finish-serial_start}
use Rattle.rc_instance.proofs.OrderLaws.{AllPairs-take, sum_by-duration-le, IsPermutation-feasible_list, place_in_feasible_list, feasible_list-before}
use Rattle.rc_instance.proofs.ScheduleLaws.{start_at-set_same, start_at-set_other, start_of-booked}

-- what is booked of distinct activities ends by the horizon
pub last_finish-serial-le-horizon : (project : Project) (order : List ℕ)
    → All (IsActivity project) order
    → AllPairs (λ a b. a ≢ b) order
    → last_finish project (serial_bookings project order) ≤ horizon project
last_finish-serial-le-horizon project order activities once =
    omega (
      arith,
      last_finish-serial project order,
      sum_by-duration-le project order activities once,
    )

-- so does each of them
pub finish-serial_start-le-horizon : (project : Project) (order : List ℕ) (i : ℕ)
    → All (IsActivity project) order
    → AllPairs (λ a b. a ≢ b) order → i < length order
    → serial_start project order i + duration project (slice_index order i) ≤ horizon project
finish-serial_start-le-horizon project order i activities once within =
    omega (
      arith,
      finish-serial_start project order i within,
      sum_by-duration-le project (take (i + 1) order)
          (All-take (IsActivity project) (i + 1) order activities)
          (AllPairs-take (i + 1) order once),
    )

-- so does what is booked of the first c places of a feasible list
pub last_finish-feasible_list : (project : Project) (order : List ℕ) (c : ℕ)
    → IsFeasibleList project order
    → last_finish project (serial_bookings project (take c order)) ≤ horizon project
last_finish-feasible_list project order c list =
    last_finish-serial-le-horizon project (take c order)
    (All-take (IsActivity project) c order list.activities) (AllPairs-take c order list.once)

-- the bookings of distinct activities are of distinct activities
serial_distinct : (project : Project) (order : List ℕ) → AllPairs (λ a b. a ≢ b) order
    → AllPairs (λ a b. a.activity ≢ b.activity) (serial_bookings project order)
serial_distinct project order once = λ i j d below within.
    let e = length-serial project order in
    rw (
      get_or-serial project order i d (omega arith),
      get_or-serial project order j d (omega arith),
    )
    (once i j 0 below (omega arith))

-- among what is booked, the activity at place i has its start
pub start_of-serial : (project : Project) (order : List ℕ) (i : ℕ) → AllPairs (λ a b. a ≢ b) order
    → i < length order
    → start_of (serial_bookings project order) (slice_index order i) ≡ serial_start project order i
start_of-serial project order i once within =
    let d : Booking = record { activity = 0; start = 0 } in
    let bookings = serial_bookings project order in
    let below : i < length bookings = omega (arith, length-serial project order) in
    rw (get_or-serial project order i d within) at
    (All-get_or (λ b. start_of bookings b.activity ≡ b.start) bookings i d below
    (start_of-booked bookings (serial_distinct project order once)))

-- the serial schedule has a start for each activity
pub length-serial_schedule : (project : Project) (order : List ℕ)
    → length (serial_schedule project order) ≡ activity_count project
unfolding serial_schedule
length-serial_schedule project order =
    length-map-range_with_len (start_of (serial_bookings project order)) 1 (activity_count project)

-- an activity's start in the serial schedule is its start among the bookings
pub start_at-serial_schedule : (project : Project) (order : List ℕ) (a : ℕ) → IsActivity project a
    → start_at (serial_schedule project order) a ≡ start_of (serial_bookings project order) a
unfolding serial_schedule start_at
start_at-serial_schedule project order a activity =
    get_or-map-range_with_len (start_of (serial_bookings project order)) 1 (activity_count project)
    (a - 1) a 0 (omega arith) (omega arith)

-- the start of the activity at place i of the order
pub start_at-place : (project : Project) (order : List ℕ) (i : ℕ) → All (IsActivity project) order
    → AllPairs (λ a b. a ≢ b) order → i < length order
    → start_at (serial_schedule project order) (slice_index order i) ≡ serial_start project order i
start_at-place project order i activities once within =
    start_at-serial_schedule project order (slice_index order i)
    (All-get_or (IsActivity project) order i 0 within activities)
    ∙ start_of-serial project order i once within

-- starts that are given by number are booked by number
pub bookings_from-map : (f : ℕ → ℕ) (n a : ℕ) → bookings_from a (map f (range_with_len a n))
    ≡ map (λ (b : ℕ). let booking : Booking = record { activity = b; start = f b } in booking)
    (range_with_len a n)
bookings_from-map f zero a = refl
bookings_from-map f (suc n) a =
    ap (λ bs. record { activity = a; start = f a } ∷ bs) (bookings_from-map f n (a + 1))

-- what the scheme books of a feasible list is what its schedule books, in another order
pub IsPermutation-serial_schedule : (project : Project) (order : List ℕ)
    → IsFeasibleList project order
    → IsPermutation (serial_bookings project order) (bookings_of (serial_schedule project order))
unfolding serial_schedule
IsPermutation-serial_schedule project order list =
    let bookings = serial_bookings project order in
    let n = activity_count project in
    let booking = λ (a : ℕ). let b : Booking =
    record { activity = a; start = start_of bookings a } in b in
    let d : Booking = record { activity = 0; start = 0 } in
    let count = length-map order booking in
    let own : map booking order ≡ bookings = ext_get_or d (map booking order) bookings
    (count ∙ sym (length-serial project order))
    (λ i within.
    let below : i < length order = omega arith in
    get_or-map booking order i 0 d below
    ∙ (ap (λ (t : ℕ). let b : Booking = record { activity = slice_index order i; start = t } in b)
    (start_of-serial project order i list.once below)
    ∙ sym (get_or-serial project order i d below))) in
    let moved = IsPermutation-map booking order (numbers n)
    (IsPermutation-feasible_list project order list) in
    subst₂ IsPermutation own (sym (bookings_from-map (start_of bookings) n 1)) moved

-- the serial schedule uses what the scheme booked
pub usage-serial_schedule : (project : Project) (order : List ℕ) (k p : ℕ)
    → IsFeasibleList project order
    → usage project (bookings_of (serial_schedule project order)) k p
    ≡ usage project (serial_bookings project order) k p
usage-serial_schedule project order k p list =
    sum_by-IsPermutation (use_of project k p) (serial_bookings project order)
    (bookings_of (serial_schedule project order)) (IsPermutation-serial_schedule project order list)

-- bookings in another order have the same last finish
pub last_finish-IsPermutation : (project : Project) (xs ys : List Booking) → IsPermutation xs ys
    → last_finish project xs ≡ last_finish project ys
last_finish-IsPermutation project xs ys moved =
    let up = last_finish-le project ys (last_finish project xs)
    (All-permutation (λ b. finish project b ≤ last_finish project xs) xs ys moved
    (finish-le-last_finish project xs)) in
    let down = last_finish-le project xs (last_finish project ys)
    (All-permutation (λ b. finish project b ≤ last_finish project ys) ys xs
    (IsPermutation-sym xs ys moved) (finish-le-last_finish project ys)) in
    omega arith

-- its makespan is the greatest finish of what the scheme booked
pub makespan-serial_schedule : (project : Project) (order : List ℕ) → IsFeasibleList project order
    → makespan project (serial_schedule project order)
    ≡ last_finish project (serial_bookings project order)
makespan-serial_schedule project order list =
    sym (last_finish-IsPermutation project (serial_bookings project order)
    (bookings_of (serial_schedule project order)) (IsPermutation-serial_schedule project order list))

-- so it ends by the horizon
pub makespan-serial_schedule-le-horizon : (project : Project) (order : List ℕ)
    → IsFeasibleList project order
    → makespan project (serial_schedule project order) ≤ horizon project
makespan-serial_schedule-le-horizon project order list =
    omega (
      arith,
      makespan-serial_schedule project order list,
      last_finish-serial-le-horizon project order list.activities list.once,
    )

-- an activity at an earlier place that precedes directly has ended when the one at a later place
-- starts
pub serial_start-after : (project : Project) (order : List ℕ) (before place : ℕ) → before < place
    → place < length order
    → Precedes project (slice_index order before) (slice_index order place)
    → serial_start project order before + duration project (slice_index order before)
    ≤ serial_start project order place
serial_start-after project order before place below within precedes =
    let d : Booking = record { activity = 0; start = 0 } in
    let a = slice_index order place in
    let bookings = serial_bookings project (take place order) in
    let long : length (take place order) ≡ place = length-take-le place order (omega arith) in
    let h = All-get_or (λ b. Precedes project b.activity a
    → finish project b ≤ ready_time project bookings a)
    bookings before d (omega (arith, length-serial project (take place order)))
    (finish-le-ready_time project bookings a) in
    let e : get_or bookings before d ≡ serial_booking project order before =
    get_or-serial project (take place order) before d (omega arith)
    ∙ serial_booking-take project order before place below in
    omega (arith, (rw e at h) precedes, least_start-after project bookings a)

-- the serial schedule of a feasible list is feasible
pub IsFeasible-serial_schedule : (project : Project) (order : List ℕ) → HasNoMisfit project
    → IsFeasibleList project order
    → IsFeasible project (serial_schedule project order)
IsFeasible-serial_schedule project order none list = record {
  count = length-serial_schedule project order;
  precedence = λ a b first second precedes.
      let starts = serial_schedule project order in
      let later = place_in_feasible_list project order b list second in
      let earlier = feasible_list-before project order later.0 a list later.1 first
      (subst (Precedes project a) (sym later.2) precedes) in
      let h = serial_start-after project order earlier.0 later.0 earlier.1 later.1
      (subst₂ (Precedes project) (sym earlier.2) (sym later.2) precedes) in
      let e = start_at-place project order earlier.0 list.activities list.once (omega arith) in
      let f = start_at-place project order later.0 list.activities list.once later.1 in
      subst₂ (λ x y. start_at starts x + duration project x ≤ start_at starts y) earlier.2 later.2
      (omega arith);
  capacity = λ k p resource.
      omega (
        arith,
        usage-serial_schedule project order k p list,
        (serial_within project order none list.activities).within k p resource,
      );
}

-- starts that show what the scheme gives are its schedule
pub serial_schedule_shown : (project : Project) (order starts : List ℕ)
    → IsFeasibleList project order
    → length starts ≡ activity_count project
    → ((i : ℕ) → i < length order
    → start_at starts (slice_index order i) ≡ serial_start project order i)
    → starts ≡ serial_schedule project order
unfolding start_at
serial_schedule_shown project order starts list count shown =
    let schedule = serial_schedule project order in
    let same = λ (a : ℕ) (activity : IsActivity project a).
    let p = place_in_feasible_list project order a list activity in
    let e : start_at starts a ≡ start_at schedule a =
    subst (λ x. start_at starts x ≡ start_at schedule x) p.2
    (shown p.0 p.1 ∙ sym (start_at-place project order p.0 list.activities list.once p.1)) in
    e in
    ext_get_or 0 starts schedule (count ∙ sym (length-serial_schedule project order))
    (λ k within.
    let e : k + 1 - 1 ≡ k = omega arith in
    subst (λ n. get_or starts n 0 ≡ get_or schedule n 0) e
    (same (k + 1) (omega arith, omega arith)))

-- one more start written shows one more place
pub starts_more : (project : Project) (order starts : List ℕ) (c : ℕ)
    → All (IsActivity project) order
    → AllPairs (λ a b. a ≢ b) order → length starts ≡ activity_count project → c < length order
    → ((i : ℕ) → i < c → start_at starts (slice_index order i) ≡ serial_start project order i)
    → (i : ℕ) → i < c + 1
    → start_at (set starts (slice_index order c - 1) (serial_start project order c))
    (slice_index order i)
    ≡ serial_start project order i
starts_more project order starts c activities once count within shown i below =
    let a = slice_index order c in
    let t = serial_start project order c in
    let here = All-get_or (IsActivity project) order c 0 within activities in
    elim (cases_eq c i) [
      | inl e ↦ subst (λ n. start_at (set starts (a - 1) t) (slice_index order n)
          ≡ serial_start project order n) e
          (start_at-set_same starts a t here.0 (omega arith))
      | inr ne ↦
          let there = All-get_or (IsActivity project) order i 0 (omega arith) activities in
          start_at-set_other starts a (slice_index order i) t here.0 there.0
          (λ e. once i c 0 (omega arith) within (sym e)) ∙ shown i (omega arith)
    ]
