-- The work of a resource, and the time that it takes in a feasible schedule.
use Rattle.std.proofs.Common.{◌≡◌, ℕ, zero, suc, ◌+◌, ◌-◌, ◌*◌, ◌<◌, ◌≤◌, List, [], ◌∷◌, length, refl, ap, arith}
use Rattle.std.specs.List.{All, sum_by, range_with_len}
use Rattle.std.proofs.lemmas.Bool.Decides.{nat_tests}
use Rattle.std.proofs.lemmas.List.Elements.{All-head, All-tail}
use Rattle.std.proofs.lemmas.List.Sums.{sum_by-cons}
use Rattle.rc_instance.specs.Project.{Project, IsResource, duration, demand, capacity_at}
use Rattle.rc_instance.specs.Usage.{Booking, finish, use_of, usage}
use Rattle.rc_instance.specs.Schedule.{IsFeasible, makespan, bookings_from, bookings_of}
use Rattle.rc_instance.proofs.UsageLaws.{finish-le-last_finish}
use Rattle.time_windows.specs.CapacityBound.{work_of, work}

-- the sum of a function over the periods before an end
sum_before : (ℕ → ℕ) → ℕ → ℕ
sum_before f zero = 0
sum_before f (suc end) = sum_before f end + f end

-- of two functions added
sum_before-add : (f g h : ℕ → ℕ) (end : ℕ) → ((p : ℕ) → h p ≡ f p + g p)
    → sum_before h end ≡ sum_before f end + sum_before g end
unfolding sum_before
sum_before-add f g h zero same = refl
sum_before-add f g h (suc end) same = omega (arith, same end, sum_before-add f g h end same)

-- of a function that is 0
sum_before-zero : (f : ℕ → ℕ) (end : ℕ) → ((p : ℕ) → p < end → f p ≡ 0) → sum_before f end ≡ 0
unfolding sum_before
sum_before-zero f zero none = refl
sum_before-zero f (suc end) none =
    omega (
      arith,
      none end (omega arith),
      sum_before-zero f end (λ p below. none p (omega arith)),
    )

-- of a function that is at most m in each period
sum_before-le : (f : ℕ → ℕ) (m end : ℕ) → ((p : ℕ) → f p ≤ m) → sum_before f end ≤ m * end
unfolding sum_before
sum_before-le f m zero few = omega arith
sum_before-le f m (suc end) few = omega (arith, few end, sum_before-le f m end few)

-- of a function that is m in n periods from a start on, and 0 before
sum_before-constant : (f : ℕ → ℕ) (m start n : ℕ) → ((p : ℕ) → p < start → f p ≡ 0)
    → ((p : ℕ) → start ≤ p → p < start + n → f p ≡ m) → sum_before f (start + n) ≡ m * n
unfolding sum_before
sum_before-constant f m start zero none some =
    let e : start + 0 ≡ start = omega arith in
    omega (arith, ap (sum_before f) e, sum_before-zero f start none)
sum_before-constant f m start (suc n) none some =
    let e : start + suc n ≡ suc (start + n) = omega arith in
    omega (
      arith,
      ap (sum_before f) e,
      some (start + n) (omega arith) (omega arith),
      sum_before-constant f m start n none (λ p from below. some p from (omega arith)),
    )

-- of a function that is 0 from some period on
sum_before-ended : (f : ℕ → ℕ) (end n : ℕ) → ((p : ℕ) → end ≤ p → f p ≡ 0)
    → sum_before f (end + n) ≡ sum_before f end
unfolding sum_before
sum_before-ended f end zero none =
    let e : end + 0 ≡ end = omega arith in ap (sum_before f) e
sum_before-ended f end (suc n) none =
    let e : end + suc n ≡ suc (end + n) = omega arith in
    omega (
      arith,
      ap (sum_before f) e,
      none (end + n) (omega arith),
      sum_before-ended f end n none,
    )

-- the work of a booking
abbrev booked_work : Project → ℕ → Booking → ℕ
booked_work project k booking = work_of project k booking.activity

-- a booking that has ended has used its whole work
sum_before-use_of : (project : Project) (k : ℕ) (booking : Booking) (end : ℕ)
    → finish project booking ≤ end
    → sum_before (λ p. use_of project k p booking) end ≡ booked_work project k booking
sum_before-use_of project k booking end ended =
    let used = λ (p : ℕ). use_of project k p booking in
    let d = duration project booking.activity in
    let q = demand project booking.activity k in
    let s = booking.start in
    let e : s + d + (end - (s + d)) ≡ end = omega arith in
    let before : (p : ℕ) → p < s → used p ≡ 0 = λ p below. grind (arith, nat_tests) in
    let running : (p : ℕ) → s ≤ p → p < s + d → used p ≡ q =
    λ p from below. grind (arith, nat_tests) in
    let after : (p : ℕ) → s + d ≤ p → used p ≡ 0 = λ p from. grind (arith, nat_tests) in
    omega (
      arith,
      ap (sum_before used) e,
      sum_before-ended used (s + d) (end - (s + d)) after,
      sum_before-constant used q s d before running,
    )

-- what bookings use until they have all ended is their whole work
sum_before-usage : (project : Project) (k : ℕ) (bookings : List Booking) (end : ℕ)
    → All (λ b. finish project b ≤ end) bookings
    → sum_before (λ p. usage project bookings k p) end ≡ sum_by (booked_work project k) bookings
sum_before-usage project k [] end ended = sum_before-zero (λ p. 0) end (λ p below. refl)
sum_before-usage project k (booking ∷ bookings) end ended =
    let P : Booking → Type 0 = λ b. finish project b ≤ end in
    omega (
      arith,
      sum_before-add (λ p. use_of project k p booking) (λ p. usage project bookings k p)
          (λ p. usage project (booking ∷ bookings) k p) end
          (λ p. sum_by-cons (use_of project k p) booking bookings),
      sum_before-use_of project k booking end (All-head P booking bookings ended),
      sum_before-usage project k bookings end (All-tail P booking bookings ended),
      sum_by-cons (booked_work project k) booking bookings,
    )

-- the work of the bookings of a schedule is that of its activities
booked_work-all : (project : Project) (k : ℕ) (starts : List ℕ) (a : ℕ)
    → sum_by (booked_work project k) (bookings_from a starts)
    ≡ sum_by (work_of project k) (range_with_len a (length starts))
booked_work-all project k [] a = refl
booked_work-all project k (start ∷ starts) a =
    omega (
      arith,
      sum_by-cons (booked_work project k) (record { activity = a; start = start })
          (bookings_from (a + 1) starts),
      sum_by-cons (work_of project k) a (range_with_len (a + 1) (length starts)),
      booked_work-all project k starts (a + 1),
    )

-- the work of a resource is at most what there is of it at most, over the makespan
pub work-le-makespan : (project : Project) (starts : List ℕ) (k top : ℕ)
    → IsFeasible project starts → IsResource project k
    → ((p : ℕ) → capacity_at project k p ≤ top)
    → work project k ≤ top * makespan project starts
unfolding work
work-le-makespan project starts k top feasible resource within =
    let bookings = bookings_of starts in
    let end = makespan project starts in
    omega (
      arith,
      sum_before-usage project k bookings end (finish-le-last_finish project bookings),
      sum_before-le (λ p. usage project bookings k p) top end
          (λ p. omega (arith, within p, feasible.capacity k p resource)),
      booked_work-all project k starts 1,
      ap (λ (n : ℕ). sum_by (work_of project k) (range_with_len 1 n)) feasible.count,
    )
