-- Descent by adjacent swaps: a list is made better by exchanges of neighbours, each the first that
-- shortens its serial schedule.
use Rattle.std.specs.Prelude.{ℕ, zero, suc, ◌+◌, ◌-◌, ◌&&◌, Bool, not, Option, None, Some, List, length, slice_index, nat_lt}
use Rattle.std.specs.List.{find, range_with_len, swap}
use Rattle.rc_instance.specs.Project.{Project, precedes}
use Rattle.rc_instance.specs.Schedule.{makespan, serial_schedule}

-- the order with the activities at place i and at the next in each other's place
abbrev pub swapped : List ℕ → ℕ → List ℕ
swapped order i = swap order i (i + 1)

-- how long the serial schedule of an order takes
abbrev pub serial_makespan : Project → List ℕ → ℕ
serial_makespan project order = makespan project (serial_schedule project order)

-- whether the activity at place i does not directly precede the next one, and their exchange gives a
-- shorter serial schedule
unfoldable pub improves : Project → List ℕ → ℕ → Bool
improves project order i =
    not (precedes project (slice_index order i) (slice_index order (i + 1)))
    && nat_lt (serial_makespan project (swapped order i)) (serial_makespan project order)

-- the least place at which an exchange improves, if there is one
abbrev pub first_swap : Project → List ℕ → Option ℕ
first_swap project order = find (improves project order) (range_with_len 0 (length order - 1))

-- the order once this exchange is made, if there is one
abbrev pub with_swap : List ℕ → Option ℕ → List ℕ
with_swap order None = order
with_swap order (Some i) = swapped order i

-- the order after so many rounds, each the first exchange that improves; without one the order stays
unfoldable pub descent : Project → ℕ → List ℕ → List ℕ
descent project zero order = order
descent project (suc rounds) order =
    descent project rounds (with_swap order (first_swap project order))
