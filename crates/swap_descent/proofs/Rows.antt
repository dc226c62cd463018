-- Worked rows, computed from the definitions.
use Rattle.std.proofs.Common.{◌≡◌, ℕ, [], ◌∷◌, List, refl}
use Rattle.rc_instance.specs.Lists.{first_from}
use Rattle.rc_instance.specs.Project.{Project, capacity, capacity_at, last_change, demand, duration, precedes, successors_of}
use Rattle.rc_instance.specs.Usage.{fits, least_from, least_start}
use Rattle.rc_instance.specs.Serial.{serial_bookings}
use Rattle.rc_instance.specs.Schedule.{serial_schedule}
use Rattle.swap_descent.specs.Descent.{improves, descent}

-- six activities, one resource of capacity 2
six : Project
six = record {
  capacities = 2 ∷ [];
  durations = 0 ∷ 1 ∷ 3 ∷ 2 ∷ 2 ∷ 0 ∷ [];
  demands = 0 ∷ 1 ∷ 1 ∷ 1 ∷ 1 ∷ 0 ∷ [];
  successors = (2 ∷ 4 ∷ 5 ∷ []) ∷ (3 ∷ []) ∷ (6 ∷ []) ∷ (6 ∷ []) ∷ (6 ∷ []) ∷ [] ∷ [];
  changes = [];
}

order : List ℕ
order = 1 ∷ 4 ∷ 5 ∷ 2 ∷ 3 ∷ 6 ∷ []

-- the serial schedules of the list, and after one round and two
starts_before : serial_schedule six order ≡ 0 ∷ 2 ∷ 3 ∷ 0 ∷ 0 ∷ 6 ∷ []
unfolding six order serial_schedule serial_bookings least_start least_from first_from fits capacity
    capacity_at last_change demand duration precedes successors_of
starts_before = refl

one_round : descent six 1 order ≡ 1 ∷ 4 ∷ 2 ∷ 5 ∷ 3 ∷ 6 ∷ []
unfolding six order descent improves serial_schedule serial_bookings least_start least_from first_from
    fits capacity capacity_at last_change demand duration precedes successors_of
one_round = refl

starts_after_one : serial_schedule six (1 ∷ 4 ∷ 2 ∷ 5 ∷ 3 ∷ 6 ∷ []) ≡ 0 ∷ 0 ∷ 2 ∷ 0 ∷ 1 ∷ 5 ∷ []
unfolding six serial_schedule serial_bookings least_start least_from first_from fits capacity
    capacity_at last_change demand duration precedes successors_of
starts_after_one = refl

two_rounds : descent six 1 (1 ∷ 4 ∷ 2 ∷ 5 ∷ 3 ∷ 6 ∷ []) ≡ 1 ∷ 4 ∷ 2 ∷ 3 ∷ 5 ∷ 6 ∷ []
unfolding six descent improves serial_schedule serial_bookings least_start least_from first_from
    fits capacity capacity_at last_change demand duration precedes successors_of
two_rounds = refl

starts_after_two : serial_schedule six (1 ∷ 4 ∷ 2 ∷ 3 ∷ 5 ∷ 6 ∷ []) ≡ 0 ∷ 0 ∷ 1 ∷ 0 ∷ 2 ∷ 4 ∷ []
unfolding six serial_schedule serial_bookings least_start least_from first_from fits capacity
    capacity_at last_change demand duration precedes successors_of
starts_after_two = refl

-- no exchange shortens it further
third_round : descent six 1 (1 ∷ 4 ∷ 2 ∷ 3 ∷ 5 ∷ 6 ∷ []) ≡ 1 ∷ 4 ∷ 2 ∷ 3 ∷ 5 ∷ 6 ∷ []
unfolding six descent improves serial_schedule serial_bookings least_start least_from first_from
    fits capacity capacity_at last_change demand duration precedes successors_of
third_round = refl
