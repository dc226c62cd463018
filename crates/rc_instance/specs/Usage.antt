-- Usage of resources, fitting, and least and latest starts: the notions of the serial scheme (Kolisch 1996).
use Rattle.std.specs.Prelude.{ℕ, max, ◌+◌, ◌-◌, ◌<◌, ◌≤◌, ◌&&◌, Bool, List, map, nat_le, nat_lt, if◌then◌else◌}
use Rattle.std.specs.List.{sum_by, filter, list_all, range_with_len}
use Rattle.rc_instance.specs.Lists.{greatest, numbers, first_from, last_below}
use Rattle.rc_instance.specs.Project.{Project, IsResource, resource_count, duration, demand, capacity_at, last_change, precedes}

-- an activity with its start
pub record Booking : Type 0 where
  pub activity : ℕ
  pub start : ℕ

-- the first period in which a booked activity no longer runs
abbrev pub finish : Project → Booking → ℕ
finish project booking = booking.start + duration project booking.activity

-- what a booking uses of resource k in period p: its demand from its start up to its finish
abbrev pub use_of : Project → ℕ → ℕ → Booking → ℕ
use_of project k p booking =
    if nat_le booking.start p && nat_lt p (finish project booking) then demand project booking.activity k else 0

-- what all bookings use of resource k in period p
abbrev pub usage : Project → List Booking → ℕ → ℕ → ℕ
usage project bookings k p = sum_by (use_of project k p) bookings

-- activity a, started at t beside the bookings, exceeds no capacity in any of its periods
pub record Fits (project : Project) (bookings : List Booking) (a t : ℕ) : Type 0 where
  pub within : (k p : ℕ) → IsResource project k → t ≤ p → p < t + duration project a
      → usage project bookings k p + demand project a k ≤ capacity_at project k p

-- t is the least start of a from the floor on, beside the bookings
pub record IsLeastFrom (project : Project) (bookings : List Booking) (a floor t : ℕ) : Type 0 where
  pub after : floor ≤ t
  pub fits : Fits project bookings a t
  pub least : (u : ℕ) → floor ≤ u → Fits project bookings a u → t ≤ u

-- t is the latest start of a that ends it by the given end, beside the bookings
pub record IsLastBy (project : Project) (bookings : List Booking) (a end t : ℕ) : Type 0 where
  pub ends : t + duration project a ≤ end
  pub fits : Fits project bookings a t
  pub last : (u : ℕ) → u + duration project a ≤ end → Fits project bookings a u → u ≤ t

-- the greatest finish of the bookings, or 0: the makespan of a whole schedule
abbrev pub last_finish : Project → List Booking → ℕ
last_finish project bookings = greatest (map (finish project) bookings)

-- the greatest finish of the booked direct predecessors of a, or 0
abbrev pub ready_time : Project → List Booking → ℕ → ℕ
ready_time project bookings a = last_finish project (filter (λ booking. precedes project booking.activity a) bookings)

-- t is the least start of a that follows its booked direct predecessors, beside the bookings
abbrev pub IsLeast : Project → List Booking → ℕ → ℕ → Type 0
IsLeast project bookings a t = IsLeastFrom project bookings a (ready_time project bookings a) t

-- the same notions as they are computed, for small instances by evaluation

-- whether a fits at t: each resource in each period
unfoldable pub fits : Project → List Booking → ℕ → ℕ → Bool
fits project bookings a t =
    list_all (λ k. list_all (λ p. nat_le (usage project bookings k p + demand project a k) (capacity_at project k p))
    (range_with_len t (duration project a))) (numbers (resource_count project))

-- from here on nothing changes any more and nothing runs
abbrev pub rest_time : Project → List Booking → ℕ
rest_time project bookings = max (last_change project) (last_finish project bookings)

-- the least start of a from the floor on; where there is none, a period at which all has ended
unfoldable pub least_from : Project → List Booking → ℕ → ℕ → ℕ
least_from project bookings a floor =
    first_from (fits project bookings a) floor (rest_time project bookings - floor)

-- the least start of a that follows its booked direct predecessors
unfoldable pub least_start : Project → List Booking → ℕ → ℕ
least_start project bookings a = least_from project bookings a (ready_time project bookings a)

-- the latest start of a that ends it by the given end; where there is none, 0
unfoldable pub last_by : Project → List Booking → ℕ → ℕ → ℕ
last_by project bookings a end = last_below (fits project bookings a) (end + 1 - duration project a)
