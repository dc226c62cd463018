-- The computed tests and starts are what the relations say.
use Rattle.std.proofs.Common.{◌≡◌, ℕ, ◌+◌, ◌-◌, ◌<◌, ◌≤◌, max, List, ◌++◌, nat_le, inl, inr, arith, le-leb, leb-true}
use Rattle.std.specs.Bool.{Decides}
use Rattle.std.specs.List.{list_all, range_with_len}
use Rattle.std.proofs.lemmas.Bool.{cases_lt}
use Rattle.std.proofs.lemmas.Bool.Decides.{Decides-like}
use Rattle.rc_instance.specs.Lists.{first_from, last_below}
use Rattle.rc_instance.specs.Project.{Project, IsActivity, resource_count, duration, demand, capacity_at}
use Rattle.rc_instance.specs.Misfit.{HasNoMisfit}
use Rattle.rc_instance.specs.Usage.{Booking, Fits, IsLeastFrom, IsLeast, IsLastBy, usage, ready_time, rest_time, fits, least_from, least_start, last_by}
use Rattle.rc_instance.proofs.ListLaws.{list_all-range, first_from-after, first_from-within, first_from-least, first_from-passes, last_below-is}
use Rattle.rc_instance.proofs.CapacityLaws.{capacity_at-last}
use Rattle.rc_instance.proofs.UsageLaws.{usage-ended, Fits-at_rest, ready_time-le-append, ready_time-le-last_finish, IsLeastFrom-unique, IsLeastFrom-later, IsLastBy-unique}

-- `fits` tells whether the activity fits
pub fits_decides : (project : Project) (bookings : List Booking) (a t : ℕ)
    → Decides (fits project bookings a t) (Fits project bookings a t)
unfolding fits
fits_decides project bookings a t =
    let P : ℕ → ℕ → Type 0 = λ k p. usage project bookings k p + demand project a k
    ≤ capacity_at project k p in
    let each = λ (k p : ℕ).
    let used = usage project bookings k p + demand project a k in
    let here : Decides (nat_le used (capacity_at project k p)) (P k p) =
    (leb-true used (capacity_at project k p), le-leb used (capacity_at project k p)) in
    here in
    Decides-like (fits project bookings a t)
    (λ h. record { within = λ k p resource from below. h k resource.0 (omega arith) p from below })
    (λ h k from below p start end. h.within k p (from, omega arith) start end)
    (list_all-range (λ k. list_all
    (λ p. nat_le (usage project bookings k p + demand project a k) (capacity_at project k p))
    (range_with_len t (duration project a))) (λ k. (p : ℕ) → t ≤ p → p < t + duration project a
    → P k p)
    (λ k. list_all-range _ (P k) (each k) t (duration project a)) 1 (resource_count project))

-- what fits at a time of rest fits at each time of rest
pub Fits-rest_moves : (project : Project) (bookings : List Booking) (a t u : ℕ)
    → rest_time project bookings ≤ t
    → rest_time project bookings ≤ u → Fits project bookings a t → Fits project bookings a u
Fits-rest_moves project bookings a t u rest other h = record {
  within = λ k p resource from below.
      omega (
        arith,
        h.within k t resource (omega arith) (omega arith),
        usage-ended project bookings k p (omega arith),
        capacity_at-last project k p (omega arith),
        usage-ended project bookings k t (omega arith),
        capacity_at-last project k t (omega arith),
      );
}

-- the computed least start is at the floor or later
pub least_from-after : (project : Project) (bookings : List Booking) (a floor : ℕ)
    → floor ≤ least_from project bookings a floor
unfolding least_from
least_from-after project bookings a floor =
    first_from-after (fits project bookings a) floor (rest_time project bookings - floor)

-- it is at most the greatest of the floor, the last change and the greatest finish
pub least_from-le : (project : Project) (bookings : List Booking) (a floor : ℕ)
    → least_from project bookings a floor ≤ max floor (rest_time project bookings)
unfolding least_from
least_from-le project bookings a floor =
    omega (
      arith,
      first_from-within (fits project bookings a) floor
          (rest_time project bookings - floor),
    )

-- where a start from the floor on fits that is no later than its bound, it is the least start
least_from-from : (project : Project) (bookings : List Booking) (a floor t : ℕ) → floor ≤ t
    → t ≤ max floor (rest_time project bookings) → Fits project bookings a t
    → IsLeastFrom project bookings a floor (least_from project bookings a floor)
unfolding least_from
least_from-from project bookings a floor t after bound h =
    let test = fits project bookings a in
    let n = rest_time project bookings - floor in
    record {
      after = first_from-after test floor n;
      fits = (fits_decides project bookings a (first_from test floor n)).0
          (first_from-passes test floor n t after (omega arith)
          ((fits_decides project bookings a t).1 h));
      least = λ u from other. first_from-least test floor n u from
          ((fits_decides project bookings a u).1 other);
    }

-- without a misfit there is a least start from each floor on, and it is the computed one
pub least_from-is : (project : Project) (bookings : List Booking) (a floor : ℕ)
    → HasNoMisfit project
    → IsActivity project a
    → IsLeastFrom project bookings a floor (least_from project bookings a floor)
least_from-is project bookings a floor none activity =
    let end = max floor (rest_time project bookings) in
    least_from-from project bookings a floor end (omega arith) (omega arith)
    (Fits-at_rest project bookings a end none activity (omega arith))

-- a least start from a floor on is the computed one
pub least_from-exact : (project : Project) (bookings : List Booking) (a floor t : ℕ)
    → IsLeastFrom project bookings a floor t → least_from project bookings a floor ≡ t
least_from-exact project bookings a floor t h =
    let end = max floor (rest_time project bookings) in
    let bound : t ≤ end = elim (cases_lt end t) [
      | inl late ↦ h.least end (omega arith)
          (Fits-rest_moves project bookings a t end (omega arith) (omega arith) h.fits)
      | inr soon ↦ soon
    ] in
    IsLeastFrom-unique project bookings a floor _ t
    (least_from-from project bookings a floor t h.after bound h.fits) h

-- the computed least start is never earlier beside more bookings and from a later floor on
pub least_from-later : (project : Project) (bookings more : List Booking) (a floor later : ℕ)
    → HasNoMisfit project
    → IsActivity project a → floor ≤ later
    → least_from project bookings a floor ≤ least_from project (bookings ++ more) a later
least_from-later project bookings more a floor later none activity le =
    IsLeastFrom-later project bookings more a floor later _ _ le
    (least_from-is project bookings a floor none activity)
    (least_from-is project (bookings ++ more) a later none activity)

-- without a misfit the computed least start after the direct predecessors is the least one
pub least_start-is : (project : Project) (bookings : List Booking) (a : ℕ) → HasNoMisfit project
    → IsActivity project a → IsLeast project bookings a (least_start project bookings a)
unfolding least_start
least_start-is project bookings a = least_from-is project bookings a (ready_time project bookings a)

-- a least start after the direct predecessors is the computed one
pub least_start-exact : (project : Project) (bookings : List Booking) (a t : ℕ)
    → IsLeast project bookings a t → least_start project bookings a ≡ t
unfolding least_start
least_start-exact project bookings a t =
    least_from-exact project bookings a (ready_time project bookings a) t

-- it follows the booked direct predecessors
pub least_start-after : (project : Project) (bookings : List Booking) (a : ℕ)
    → ready_time project bookings a ≤ least_start project bookings a
unfolding least_start
least_start-after project bookings a =
    least_from-after project bookings a (ready_time project bookings a)

-- it is at most the greatest of the last change and the greatest finish
pub least_start-le : (project : Project) (bookings : List Booking) (a : ℕ)
    → least_start project bookings a ≤ rest_time project bookings
unfolding least_start
least_start-le project bookings a =
    omega (
      arith,
      least_from-le project bookings a (ready_time project bookings a),
      ready_time-le-last_finish project bookings a,
    )

-- it is never earlier beside more bookings
pub least_start-later : (project : Project) (bookings more : List Booking) (a : ℕ)
    → HasNoMisfit project
    → IsActivity project a
    → least_start project bookings a ≤ least_start project (bookings ++ more) a
unfolding least_start
least_start-later project bookings more a none activity =
    least_from-later project bookings more a _ _ none activity
    (ready_time-le-append project bookings more a)

-- where a start that ends by the end fits, the computed latest start is the latest one
pub last_by-is : (project : Project) (bookings : List Booking) (a end u : ℕ)
    → u + duration project a ≤ end
    → Fits project bookings a u → IsLastBy project bookings a end (last_by project bookings a end)
unfolding last_by
last_by-is project bookings a end u ends h =
    let test = fits project bookings a in
    let n = end + 1 - duration project a in
    let at = λ (v : ℕ) (by : v + duration project a ≤ end) (h : Fits project bookings a v).
    last_below-is test n v (omega arith) ((fits_decides project bookings a v).1 h) in
    record {
      ends = omega (arith, (at u ends h).1);
      fits = (fits_decides project bookings a (last_below test n)).0 (at u ends h).0;
      last = λ v by other. (at v by other).2;
    }

-- a latest start by an end is the computed one
pub last_by-exact : (project : Project) (bookings : List Booking) (a end t : ℕ)
    → IsLastBy project bookings a end t → last_by project bookings a end ≡ t
last_by-exact project bookings a end t h =
    IsLastBy-unique project bookings a end _ t (last_by-is project bookings a end t h.ends h.fits) h
