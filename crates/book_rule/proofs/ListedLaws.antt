-- What is known of the numbers of a list that can be booked.
use Rattle.std.proofs.Common.{◌≡◌, ℕ, zero, suc, ◌+◌, ◌-◌, ◌*◌, ◌/◌, ◌%◌, ◌<◌, ◌≤◌, max, length, take, slice_index, get_or, true, false, nat_lt, nat_le, nat_eq, ◌&&◌, ◌||◌, if◌then◌else◌, refl, sym, ap, ◌∙◌, inl, inr, arith, length-take-le}
use Rattle.std.proofs.lemmas.Bool.{cases_lt}
use Rattle.std.proofs.lemmas.Bool.Decides.{nat_tests}
use Rattle.std.proofs.lemmas.List.{get_or_default}
use Rattle.std.proofs.lemmas.List.Elements.{All-get_or, All-take}
use Rattle.rc_instance.specs.Project.{IsActivity, IsResource, resource_count, demand, capacity_at, last_capacity, precedes, Precedes}
use Rattle.rc_instance.specs.Usage.{Booking, Fits, finish, usage, use_of, ready_time}
use Rattle.rc_instance.specs.Serial.{serial_bookings}
use Rattle.rc_instance.proofs.LimitLaws.{capacity_by-le, last_change-le}
use Rattle.rc_instance.proofs.UsageLaws.{usage_push, usage-le-append, ready_time_push, finish-le-ready_time}
use Rattle.rc_instance.proofs.StartLaws.{least_start-is, least_start-after, least_start-later}
use Rattle.rc_instance.proofs.SerialLaws.{serial_booking, serial_more, serial_booking-take, serial-take, serial_within, get_or-serial, length-serial}
use Rattle.rc_instance.proofs.FeasibleLaws.{finish-serial_start-le-horizon}
use Rattle.activity_net.specs.Network.{Listing, predecessors_of}
use Rattle.activity_net.proofs.NameLaws.{contains_named, named_at}
use Rattle.activity_net.proofs.RemovalLaws.{named_predecessor, predecessor_named}
use Rattle.book_rule.specs.Listed.{IsBookable, project_of, count, activity_at, booked, lasts, begins, least_of, before_count, before, width, horizon_of, in_lane, need, room, level}
use Rattle.book_rule.specs.Reaches.{share}

-- the activity at position i, started at t, has room in each lane beside the first c bookings
abbrev pub HasRoom : Listing → ℕ → ℕ → ℕ → Type 0
HasRoom list c i t = (p w l : ℕ) → t ≤ p → p < t + lasts list i → w < width list → l < 4
    → level list c w l p + need list i w l ≤ room list w l p

-- a lane is no more than a bound that its resource keeps, or 0
lane-le : (list : Listing) (f : ℕ → ℕ) (m w l : ℕ)
    → ((k : ℕ) → IsResource (project_of list) k → f k ≤ m) → in_lane list f w l ≤ m
lane-le list f m w l each =
    elim (nat_lt (4 * w + l) (resource_count (project_of list)))
    as (λ b. nat_lt (4 * w + l) (resource_count (project_of list)) ≡ b
    → (if b then f (4 * w + l + 1) else 0) ≤ m) [
      | true ↦ λ e. each (4 * w + l + 1) (grind (arith, nat_tests))
      | false ↦ λ e. omega arith
    ] refl

-- the same of two lanes, and of two lanes beside a third
lanes-le : (list : Listing) (f g : ℕ → ℕ) (w l : ℕ)
    → ((k : ℕ) → IsResource (project_of list) k → f k ≤ g k)
    → in_lane list f w l ≤ in_lane list g w l
lanes-le list f g w l each =
    elim (nat_lt (4 * w + l) (resource_count (project_of list)))
    as (λ b. nat_lt (4 * w + l) (resource_count (project_of list)) ≡ b
    → (if b then f (4 * w + l + 1) else 0) ≤ (if b then g (4 * w + l + 1) else 0)) [
      | true ↦ λ e. each (4 * w + l + 1) (grind (arith, nat_tests))
      | false ↦ λ e. omega arith
    ] refl

lanes-add : (list : Listing) (f g h : ℕ → ℕ) (w l : ℕ)
    → ((k : ℕ) → IsResource (project_of list) k → f k + g k ≤ h k)
    → in_lane list f w l + in_lane list g w l ≤ in_lane list h w l
lanes-add list f g h w l each =
    elim (nat_lt (4 * w + l) (resource_count (project_of list)))
    as (λ b. nat_lt (4 * w + l) (resource_count (project_of list)) ≡ b
    → (if b then f (4 * w + l + 1) else 0) + (if b then g (4 * w + l + 1) else 0)
    ≤ (if b then h (4 * w + l + 1) else 0)) [
      | true ↦ λ e. each (4 * w + l + 1) (grind (arith, nat_tests))
      | false ↦ λ e. omega arith
    ] refl

-- each resource has its lane
lane-at : (list : Listing) (f : ℕ → ℕ) (k : ℕ) → IsResource (project_of list) k
    → in_lane list f ((k - 1) / 4) ((k - 1) % 4) ≡ f k
lane-at list f k is =
    let place : 4 * ((k - 1) / 4) + (k - 1) % 4 ≡ k - 1 = omega arith in
    let back : k - 1 + 1 ≡ k = omega arith in
    let below : nat_lt (k - 1) (resource_count (project_of list)) ≡ true =
    grind (arith, nat_tests) in
    rw (place, below, back) refl

resource-inside : (list : Listing) (k : ℕ) → IsResource (project_of list) k
    → ((k - 1) / 4 < width list) × ((k - 1) % 4 < 4)
unfolding width
resource-inside list k is = (omega arith, omega arith)

module _ (list : Listing) (bookable : IsBookable list) where
  is_activity : (i : ℕ) → i < count list → IsActivity (project_of list) (activity_at list i)
  is_activity i there = All-get_or (IsActivity (project_of list)) list.order i 0 there
      bookable.feasible.activities

  pub count-some : 1 ≤ count list
  count-some = let all = bookable.feasible.count in let some = bookable.limits.some in omega arith

  pub count-small : count list ≤ 1000
  count-small = omega (arith, bookable.feasible.count, bookable.limits.activities)

  pub width-small : width list ≤ 4
  unfolding width
  width-small = let few = bookable.limits.resources in omega arith

  pub horizon-small : horizon_of list ≤ 131070
  unfolding horizon_of
  horizon-small =
      let change = last_change-le (project_of list) bookable.limits in
      let sum = bookable.limits.durations in omega arith

  -- what is booked by then has ended by the horizon
  pub begins-ends : (i : ℕ) → i < count list → begins list i + lasts list i ≤ horizon_of list
  unfolding begins lasts horizon_of
  begins-ends i there =
      finish-serial_start-le-horizon (project_of list) list.order i bookable.feasible.activities
      bookable.feasible.once there

  -- capacities and demands fit a lane
  pub room-small : (w l p : ℕ) → room list w l p ≤ 65535
  unfolding room capacity_at
  room-small w l p =
      lane-le list (λ k. capacity_at (project_of list) k p) 65535 w l
      (λ k is. capacity_by-le (project_of list) k
      (λ change. nat_le change.period p) bookable.limits is)

  pub need-small : (i w l : ℕ) → i < count list → 0 < lasts list i → need list i w l ≤ 65535
  unfolding need lasts last_capacity
  need-small i w l there runs =
      lane-le list (λ k. demand (project_of list) (activity_at list i) k) 65535 w l
      (λ k is.
      let fits = bookable.fits.fits (activity_at list i) k (is_activity i there) is runs in
      let small = capacity_by-le (project_of list) k (λ _. true) bookable.limits is in
      omega arith)

  -- nothing is used before the first booking, and one more booking adds its whole share
  pub level-none : (w l p : ℕ) → level list 0 w l p ≡ 0
  unfolding level serial_bookings
  level-none w l p =
      elim (nat_lt (4 * w + l) (resource_count (project_of list)))
      as (λ b. ◌≡◌ {A = ℕ} (if b then 0 else 0) 0) [ true ↦ refl | false ↦ refl ]

  pub level_more : (c w l p : ℕ) → c < count list
      → level list (c + 1) w l p
      ≡ level list c w l p + share list c (record { periods = lasts list c; words = 0 }) w l p
  unfolding level share need begins lasts
  level_more c w l p there =
      let project = project_of list in
      let k = 4 * w + l + 1 in
      let new = serial_booking project list.order c in
      let step : usage project (booked list (c + 1)) k p
      ≡ usage project (booked list c) k p + use_of project k p new =
      ap (λ bookings. usage project bookings k p) (serial_more project list.order c there)
      ∙ usage_push project (booked list c) new k p in
      elim (nat_lt (4 * w + l) (resource_count project))
      as (λ b. (if b then usage project (booked list (c + 1)) k p else 0)
      ≡ (if b then usage project (booked list c) k p else 0)
      + (if nat_le (begins list c) p && (nat_lt p (begins list c + lasts list c)
      || (nat_eq p (begins list c + lasts list c) && nat_lt w 0))
      then (if b then demand project (activity_at list c) k else 0) else 0)) [
        | true ↦ grind (arith, nat_tests, step)
        | false ↦ grind (arith, nat_tests)
      ]

  pub level-up : (c e w l p : ℕ) → c ≤ e → level list c w l p ≤ level list e w l p
  unfolding level
  level-up c e w l p later =
      let more = serial-take (project_of list) list.order c e later in
      lanes-le list (λ k. usage (project_of list) (booked list c) k p)
      (λ k. usage (project_of list) (booked list e) k p) w l
      (λ k is. rw more.1 (usage-le-append (project_of list) (booked list c) more.0 k p))

  -- what is booked is within the capacities
  pub level-within : (c w l p : ℕ) → level list c w l p ≤ room list w l p
  unfolding level room
  level-within c w l p =
      let all = serial_within (project_of list) (take c list.order) bookable.fits
      (All-take (IsActivity (project_of list)) c list.order bookable.feasible.activities) in
      lanes-le list (λ k. usage (project_of list) (booked list c) k p)
      (λ k. capacity_at (project_of list) k p) w l
      (λ k is. all.within k p is)

  -- room in each lane is room for each resource
  pub Fits-from_lanes : (c i t : ℕ) → HasRoom list c i t
      → Fits (project_of list) (booked list c) (activity_at list i) t
  unfolding level need room lasts
  Fits-from_lanes c i t room = record {
    within = λ k p is from below.
        let inside = resource-inside list k is in
        let here = room p ((k - 1) / 4) ((k - 1) % 4) from below inside.0 inside.1 in
        let used = lane-at list (λ k. usage (project_of list) (booked list c) k p) k is in
        let needed = lane-at list (λ k. demand (project_of list) (activity_at list i) k) k is in
        let there = lane-at list (λ k. capacity_at (project_of list) k p) k is in
        rw (used, needed, there) at here;
  }

  pub Fits-to_lanes : (c i t : ℕ) → Fits (project_of list) (booked list c) (activity_at list i) t
      → HasRoom list c i t
  unfolding level need room lasts
  Fits-to_lanes c i t fits = λ p w l from below inside lane.
      lanes-add list (λ k. usage (project_of list) (booked list c) k p)
      (λ k. demand (project_of list) (activity_at list i) k)
      (λ k. capacity_at (project_of list) k p) w l (λ k is. fits.within k p is from below)

  -- a least start has room, and beside what is booked before a position it is its own start
  pub least_of-room : (c i : ℕ) → i < count list → HasRoom list c i (least_of list c i)
  unfolding least_of
  least_of-room c i there =
      Fits-to_lanes c i _ (least_start-is (project_of list) (booked list c)
      (activity_at list i) bookable.fits (is_activity i there)).fits

  pub least_of-own : (i : ℕ) → least_of list i i ≡ begins list i
  unfolding least_of begins
  least_of-own i = refl

  -- it never comes earlier, and never after the position's own start
  pub least_of-up : (c e i : ℕ) → c ≤ e → i < count list → least_of list c i ≤ least_of list e i
  unfolding least_of
  least_of-up c e i later there =
      let more = serial-take (project_of list) list.order c e later in
      rw more.1 (least_start-later (project_of list) (booked list c) more.0
      (activity_at list i) bookable.fits (is_activity i there))

  pub least_of-early : (c i : ℕ) → c ≤ i → i < count list → least_of list c i ≤ begins list i
  least_of-early c i early there = rw (← least_of-own i) (least_of-up c i i early there)

  pub lasts-small : (i : ℕ) → i < count list → lasts list i ≤ 131070
  lasts-small i there = omega (arith, begins-ends i there, horizon-small)

  -- the direct predecessors are the activities that precede it
  precedes-before : (i k : ℕ) → k < before_count list i
      → precedes (project_of list) (before list i k) (activity_at list i) ≡ true
  unfolding before before_count
  precedes-before i k inside =
      let a = activity_at list i in
      let all = predecessors_of (project_of list) a in
      (predecessor_named (project_of list) (slice_index all k) a (named_at all k inside)).1

  place-before : (i b : ℕ) → IsActivity (project_of list) b
      → precedes (project_of list) b (activity_at list i) ≡ true
      → (k : ℕ) × (k < before_count list i) × (b ≡ before list i k)
  unfolding before before_count
  place-before i b activity is =
      let a = activity_at list i in
      let all = predecessors_of (project_of list) a in
      let h = contains_named all b (named_predecessor (project_of list) b a activity ∙ is) in
      (h.0, h.1, sym (get_or_default all h.0 0 b h.1 ∙ h.2))

  -- it follows the predecessors that are booked
  pub least_of-after : (c i j k : ℕ) → c ≤ count list → j < c → i < count list
      → k < before_count list i
      → activity_at list j ≡ before list i k → begins list j + lasts list j ≤ least_of list c i
  unfolding begins lasts least_of
  least_of-after c i j k within early there inside same =
      let project = project_of list in
      let first : Booking = record { activity = 0; start = 0 } in
      let a = activity_at list i in
      let long : length (take c list.order) ≡ c = length-take-le c list.order within in
      let below : j < length (booked list c) =
      omega (arith, length-serial project (take c list.order)) in
      let all = All-get_or (λ b. Precedes project b.activity a
      → finish project b ≤ ready_time project (booked list c) a)
      (booked list c) j first below (finish-le-ready_time project (booked list c) a) in
      let at : get_or (booked list c) j first ≡ serial_booking project list.order j =
      get_or-serial project (take c list.order) j first (omega arith)
      ∙ serial_booking-take project list.order j c early in
      let precedes_it : precedes project (activity_at list j) a ≡ true =
      rw same (precedes-before i k inside) in
      omega (arith, (rw at at all) precedes_it, least_start-after project (booked list c) a)

  -- a period by which all booked predecessors have ended
  ready_time-none : (i t : ℕ)
      → ready_time (project_of list) (booked list 0) (activity_at list i) ≤ t
  unfolding serial_bookings
  ready_time-none i t = omega arith

  ready_time-le : (i t c : ℕ) → c ≤ count list
      → ((k j : ℕ) → k < before_count list i → j < c → activity_at list j ≡ before list i k
      → begins list j + lasts list j ≤ t)
      → ready_time (project_of list) (booked list c) (activity_at list i) ≤ t
  unfolding begins lasts
  ready_time-le i t zero within after = ready_time-none i t
  ready_time-le i t (suc c) within after =
      let project = project_of list in
      let a = activity_at list i in
      let next : c + 1 ≡ suc c = omega arith in
      let step : ready_time project (booked list (suc c)) a
      ≡ max (ready_time project (booked list c) a)
      (if precedes project (activity_at list c) a then begins list c + lasts list c else 0) =
      ap (λ (n : ℕ). ready_time project (booked list n) a) (sym next)
      ∙ (ap (λ bookings. ready_time project bookings a)
      (serial_more project list.order c (omega arith))
      ∙ ready_time_push project (booked list c) (serial_booking project list.order c) a) in
      let earlier = ready_time-le i t c (omega arith)
      (λ k j inside early same. after k j inside (omega arith) same) in
      let this = elim (precedes project (activity_at list c) a)
      as (λ b. precedes project (activity_at list c) a ≡ b
      → (if b then begins list c + lasts list c else 0) ≤ t) [
        | true ↦ λ e.
            let h = place-before i (activity_at list c) (is_activity c (omega arith)) e in
            after h.0 c h.1 (omega arith) h.2
        | false ↦ λ e. omega arith
      ] refl in
      omega (arith, step, earlier, this)

  -- and it is no later than any start that follows them and has room
  pub least_of-low : (c i t : ℕ) → c ≤ count list → i < count list
      → ((k j : ℕ) → k < before_count list i → j < c → activity_at list j ≡ before list i k
      → begins list j + lasts list j ≤ t)
      → HasRoom list c i t → least_of list c i ≤ t
  unfolding least_of
  least_of-low c i t within there after room =
      let least = least_start-is (project_of list) (booked list c)
      (activity_at list i) bookable.fits (is_activity i there) in
      least.least t (ready_time-le i t c within after) (Fits-from_lanes c i t room)

  -- each activity has one position
  pub position-one : (i j : ℕ) → i < count list → j < count list
      → activity_at list i ≡ activity_at list j → i ≡ j
  position-one i j there other same =
      let once = bookable.feasible.once in
      elim (cases_lt i j) [
        | inl before ↦ absurd (once i j 0 before other same)
        | inr later ↦ elim (cases_lt j i) [
          | inl after ↦ absurd (once j i 0 after there (sym same))
          | inr early ↦ omega arith
        ]
      ]
