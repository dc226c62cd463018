-- Worked instances, computed from the definitions.
use Rattle.std.proofs.Common.{◌≡◌, ℕ, [], ◌∷◌, Some, refl}
use Rattle.rc_instance.specs.declared.parts.InstanceFault.TheVariants.{NoActivity, CapacityTooLarge, SuccessorOutOfRange, TooLong}
use Rattle.rc_instance.specs.Lists.{first_from, last_below}
use Rattle.rc_instance.specs.Project.{Project, duration, demand, capacity, capacity_at, last_change, horizon, successors_of, precedes}
use Rattle.rc_instance.specs.Usage.{fits, least_from, least_start, last_by}
use Rattle.rc_instance.specs.Serial.{serial_bookings}
use Rattle.rc_instance.specs.Schedule.{serial_schedule, makespan}
use Rattle.rc_instance.specs.Parts.{made, first_fault, large_capacity, wild_successor}

-- six activities, one resource of capacity 2
six : Project
six = made (2 ∷ []) (0 ∷ 3 ∷ 2 ∷ 2 ∷ 1 ∷ 0 ∷ []) (0 ∷ 2 ∷ 1 ∷ 1 ∷ 1 ∷ 0 ∷ [])
    ((2 ∷ 3 ∷ 4 ∷ []) ∷ (5 ∷ []) ∷ (6 ∷ []) ∷ (6 ∷ []) ∷ (6 ∷ []) ∷ [] ∷ [])

six_by_number : serial_schedule six (1 ∷ 2 ∷ 3 ∷ 4 ∷ 5 ∷ 6 ∷ []) ≡ 0 ∷ 0 ∷ 3 ∷ 3 ∷ 5 ∷ 6 ∷ []
unfolding six made serial_schedule serial_bookings least_start least_from first_from fits duration demand capacity capacity_at last_change precedes successors_of
six_by_number = refl

-- a later activity of the list may start before an earlier one
six_fills_a_gap : serial_schedule six (1 ∷ 3 ∷ 2 ∷ 4 ∷ 5 ∷ 6 ∷ []) ≡ 0 ∷ 2 ∷ 0 ∷ 0 ∷ 5 ∷ 6 ∷ []
unfolding six made serial_schedule serial_bookings least_start least_from first_from fits duration demand capacity capacity_at last_change precedes successors_of
six_fills_a_gap = refl

six_makespan : makespan six (0 ∷ 0 ∷ 3 ∷ 3 ∷ 5 ∷ 6 ∷ []) ≡ 6
unfolding six made duration
six_makespan = refl

-- the same with a capacity of 0 in periods 1 and 2
six_with_a_pause : Project
six_with_a_pause = record six {
  changes = record { resource = 1; period = 1; capacity = 0 } ∷ record { resource = 1; period = 3; capacity = 2 } ∷ [];
}

six_waits : serial_schedule six_with_a_pause (1 ∷ 2 ∷ 3 ∷ 4 ∷ 5 ∷ 6 ∷ []) ≡ 0 ∷ 3 ∷ 6 ∷ 6 ∷ 8 ∷ 9 ∷ []
unfolding six_with_a_pause six made serial_schedule serial_bookings least_start least_from first_from fits duration demand capacity capacity_at last_change precedes successors_of
six_waits = refl

six_waits_horizon : horizon six_with_a_pause ≡ 11
unfolding six_with_a_pause six made last_change
six_waits_horizon = refl

-- two activities without precedence, whose demands meet the capacity exactly, or exceed it together
pair : ℕ → Project
pair c = made (c ∷ []) (2 ∷ 1 ∷ []) (1 ∷ 2 ∷ []) ([] ∷ [] ∷ [])

pair_together : serial_schedule (pair 3) (1 ∷ 2 ∷ []) ≡ 0 ∷ 0 ∷ []
unfolding pair made serial_schedule serial_bookings least_start least_from first_from fits duration demand capacity capacity_at last_change precedes successors_of
pair_together = refl

pair_apart : serial_schedule (pair 2) (1 ∷ 2 ∷ []) ≡ 0 ∷ 2 ∷ []
unfolding pair made serial_schedule serial_bookings least_start least_from first_from fits duration demand capacity capacity_at last_change precedes successors_of
pair_apart = refl

-- an activity that takes no time demands more than there is
empty_demand : serial_schedule (made (2 ∷ []) (0 ∷ []) (5 ∷ []) ([] ∷ [])) (1 ∷ []) ≡ 0 ∷ []
unfolding made serial_schedule serial_bookings least_start least_from first_from fits duration demand capacity capacity_at last_change precedes successors_of
empty_demand = refl

-- a backward successor: activity 2 precedes activity 1
backward : Project
backward = made [] (1 ∷ 1 ∷ []) [] ([] ∷ (1 ∷ []) ∷ [])

backward_order : serial_schedule backward (2 ∷ 1 ∷ []) ≡ 1 ∷ 0 ∷ []
unfolding backward made serial_schedule serial_bookings least_start least_from first_from fits duration demand capacity capacity_at last_change precedes successors_of
backward_order = refl

-- the latest start of activity 5 that ends it by period 6
six_latest : last_by six [] 5 6 ≡ 5
unfolding six made last_by last_below fits duration demand capacity capacity_at
six_latest = refl

no_activity : first_fault [] [] [] ≡ Some NoActivity
unfolding first_fault
no_activity = refl

too_long : first_fault [] (65536 ∷ []) ([] ∷ []) ≡ Some (TooLong 65536)
unfolding first_fault large_capacity wild_successor
too_long = refl

first_of_two : first_fault (7 ∷ 65536 ∷ []) (65536 ∷ []) ((2 ∷ []) ∷ []) ≡ Some (CapacityTooLarge 2 65536)
unfolding first_fault large_capacity
first_of_two = refl

out_of_range : first_fault [] (1 ∷ 1 ∷ []) ((2 ∷ 2 ∷ []) ∷ (1 ∷ 3 ∷ 0 ∷ []) ∷ []) ≡ Some (SuccessorOutOfRange 2 3)
unfolding first_fault large_capacity wild_successor
out_of_range = refl
