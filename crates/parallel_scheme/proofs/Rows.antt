-- Worked instances, computed from the definitions.
use Rattle.std.proofs.Common.{◌≡◌, [], ◌∷◌, refl}
use Rattle.rc_instance.specs.Lists.{first_from}
use Rattle.rc_instance.specs.Project.{Project, duration, demand, capacity, capacity_at, last_change, precedes, successors_of}
use Rattle.rc_instance.specs.Usage.{fits, least_from, least_start}
use Rattle.rc_instance.specs.Serial.{serial_bookings}
use Rattle.rc_instance.specs.Schedule.{serial_schedule, makespan}
use Rattle.rc_instance.specs.Parts.{made}
use Rattle.activity_net.specs.Network.{predecessors_of}
use Rattle.parallel_scheme.specs.Parallel.{can_start, booked_at, booked_before, parallel_bookings, parallel_schedule}

-- three activities, one resource of capacity 2; the second follows the first, and needs all of it
late : Project
late = made (2 ∷ []) (2 ∷ 2 ∷ 4 ∷ []) (1 ∷ 2 ∷ 1 ∷ []) ((2 ∷ []) ∷ [] ∷ [] ∷ [])

-- the serial scheme books the second activity before the third
late_serial : serial_schedule late (1 ∷ 2 ∷ 3 ∷ []) ≡ 0 ∷ 2 ∷ 4 ∷ []
unfolding late made serial_schedule serial_bookings least_start least_from first_from fits duration
    demand capacity capacity_at last_change precedes successors_of
late_serial = refl

late_serial_makespan : makespan late (0 ∷ 2 ∷ 4 ∷ []) ≡ 8
unfolding late made duration
late_serial_makespan = refl

-- the parallel scheme starts the third at once, and the second after it
late_parallel : parallel_schedule late (1 ∷ 2 ∷ 3 ∷ []) ≡ 0 ∷ 4 ∷ 0 ∷ []
unfolding late made parallel_schedule parallel_bookings booked_before booked_at can_start fits
    duration demand capacity capacity_at last_change precedes successors_of predecessors_of
late_parallel = refl

late_parallel_makespan : makespan late (0 ∷ 4 ∷ 0 ∷ []) ≡ 6
unfolding late made duration
late_parallel_makespan = refl

-- six activities, one resource of capacity 2
six : Project
six = made (2 ∷ []) (0 ∷ 3 ∷ 2 ∷ 2 ∷ 1 ∷ 0 ∷ []) (0 ∷ 2 ∷ 1 ∷ 1 ∷ 1 ∷ 0 ∷ [])
    ((2 ∷ 3 ∷ 4 ∷ []) ∷ (5 ∷ []) ∷ (6 ∷ []) ∷ (6 ∷ []) ∷ (6 ∷ []) ∷ [] ∷ [])

six_by_number : parallel_schedule six (1 ∷ 2 ∷ 3 ∷ 4 ∷ 5 ∷ 6 ∷ []) ≡ 0 ∷ 0 ∷ 3 ∷ 3 ∷ 5 ∷ 6 ∷ []
unfolding six made parallel_schedule parallel_bookings booked_before booked_at can_start fits
    duration demand capacity capacity_at last_change precedes successors_of predecessors_of
six_by_number = refl

-- the same with a capacity of 0 in periods 1 and 2
six_with_a_pause : Project
six_with_a_pause = record six {
  changes = record { resource = 1; period = 1; capacity = 0 }
      ∷ record { resource = 1; period = 3; capacity = 2 } ∷ [];
}

six_waits : parallel_schedule six_with_a_pause (1 ∷ 2 ∷ 3 ∷ 4 ∷ 5 ∷ 6 ∷ [])
    ≡ 0 ∷ 3 ∷ 6 ∷ 6 ∷ 8 ∷ 9 ∷ []
unfolding six_with_a_pause six made parallel_schedule parallel_bookings booked_before booked_at
    can_start fits duration demand capacity capacity_at last_change precedes successors_of
    predecessors_of
six_waits = refl
