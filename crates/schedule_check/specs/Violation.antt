-- The first violation of a plan.
use Rattle.std.specs.Prelude.{ℕ, ◌+◌, ◌&&◌, ◌||◌, ◌==◌, Bool, List, [], ◌∷◌, ◌++◌, map, nat_lt, Option, None, Some, if◌then◌else◌}
use Rattle.std.specs.List.{range_with_len}
use Rattle.rc_instance.specs.Lists.{or_else, names, numbers, first_of}
use Rattle.rc_instance.specs.Project.{Project, activity_count, resource_count, duration, capacity_at, precedes}
use Rattle.rc_instance.specs.Usage.{Booking, usage, last_finish}
use Rattle.rc_instance.specs.Schedule.{start_of}
use Rattle.schedule_check.specs.declared.violation.Violation.{Violation}
use Rattle.schedule_check.specs.declared.violation.Violation.TheVariants.{Unknown, Twice, Missing, BeforePredecessor, OverCapacity}

-- whether some booking is of an activity
abbrev pub is_booked : List Booking → ℕ → Bool
is_booked bookings a = names (map (λ (b : Booking). b.activity) bookings) a

-- an activity that the project does not have, or that an earlier booking names
abbrev pub wrong_name : ℕ → List Booking → ℕ → Option Violation
wrong_name count earlier a =
    if a == 0 || nat_lt count a then Some (Unknown a)
    else if is_booked earlier a then Some (Twice a)
    else None

-- the first such activity, over the bookings in order
unfoldable pub first_wrong_name : ℕ → List Booking → List Booking → Option Violation
first_wrong_name count earlier [] = None
first_wrong_name count earlier (b ∷ later) =
    or_else (wrong_name count earlier b.activity) (first_wrong_name count (earlier ++ b ∷ []) later)

-- an activity that no booking names
abbrev pub missing_at : List Booking → ℕ → Option Violation
missing_at bookings a = if is_booked bookings a then None else Some (Missing a)

-- the least such activity
abbrev pub first_missing : ℕ → List Booking → Option Violation
first_missing count bookings = first_of (missing_at bookings) (numbers count)

-- whether activity b starts before its direct predecessor a ends
unfoldable pub is_early : Project → List Booking → ℕ → ℕ → Bool
is_early project bookings b a =
    nat_lt (start_of bookings b) (start_of bookings a + duration project a) && precedes project a b

-- the violation of b and a, if b is early
abbrev pub early_after : Project → List Booking → ℕ → ℕ → Option Violation
early_after project bookings b a =
    if is_early project bookings b a then Some (BeforePredecessor b a) else None

-- activity b with its least such predecessor
unfoldable pub early_at : Project → List Booking → ℕ → Option Violation
early_at project bookings b =
    first_of (early_after project bookings b) (numbers (activity_count project))

-- the least such activity
unfoldable pub first_early : Project → List Booking → Option Violation
first_early project bookings =
    first_of (early_at project bookings) (numbers (activity_count project))

-- what is used of resource k in period p is above its capacity
unfoldable pub over_of : Project → List Booking → ℕ → ℕ → Option Violation
over_of project bookings p k =
    let used = usage project bookings k p in
    let capacity = capacity_at project k p in
    if nat_lt capacity used then Some (OverCapacity k p used capacity) else None

-- the least such resource in period p
unfoldable pub over_at : Project → List Booking → ℕ → Option Violation
over_at project bookings p =
    first_of (over_of project bookings p) (numbers (resource_count project))

-- the least such period; from the last finish on nothing is used
unfoldable pub first_over : Project → List Booking → Option Violation
first_over project bookings =
    first_of (over_at project bookings) (range_with_len 0 (last_finish project bookings))

-- the first activity that is unknown or comes twice; else the least that is missing
abbrev pub first_name_violation : ℕ → List Booking → Option Violation
first_name_violation count bookings =
    or_else (first_wrong_name count [] bookings) (first_missing count bookings)

-- else the least that starts too early; else the least period in which too much is used
abbrev pub first_time_violation : Project → List Booking → Option Violation
first_time_violation project bookings =
    or_else (first_early project bookings) (first_over project bookings)

-- the first violation, in this order
unfoldable pub first_violation : Project → List Booking → Option Violation
first_violation project bookings =
    or_else (first_name_violation (activity_count project) bookings)
    (first_time_violation project bookings)
