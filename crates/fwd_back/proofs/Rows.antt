-- Worked instances, computed from the definitions.
use Rattle.std.proofs.Common.{◌≡◌, [], ◌∷◌, refl}
use Rattle.rc_instance.specs.Lists.{first_from, last_below}
use Rattle.rc_instance.specs.Project.{Project, duration, demand, capacity, capacity_at, last_change, precedes, successors_of}
use Rattle.rc_instance.specs.Usage.{fits, least_from, least_start, last_by}
use Rattle.rc_instance.specs.Serial.{serial_bookings}
use Rattle.rc_instance.specs.Schedule.{start_at, serial_schedule}
use Rattle.rc_instance.specs.Parts.{made}
use Rattle.activity_net.specs.Network.{predecessors_of}
use Rattle.priority_rules.specs.Choices.{is_eligible, eligible, choice, choices}
use Rattle.priority_rules.specs.KeyList.{key_list, key_in}
use Rattle.fwd_back.specs.Backward.{may_move, movable, next_moved, back_bookings, backward}
use Rattle.fwd_back.specs.Improved.{forward, improved_within, improved}

-- six activities, one resource of capacity 2, of which 3, 4 and 5 may run beside each other
free : Project
free = made (2 ∷ []) (0 ∷ 1 ∷ 3 ∷ 2 ∷ 2 ∷ 0 ∷ []) (0 ∷ 1 ∷ 1 ∷ 1 ∷ 1 ∷ 0 ∷ [])
    ((2 ∷ 4 ∷ 5 ∷ []) ∷ (3 ∷ []) ∷ (6 ∷ []) ∷ (6 ∷ []) ∷ (6 ∷ []) ∷ [] ∷ [])

free_backward : backward free (0 ∷ 2 ∷ 3 ∷ 0 ∷ 0 ∷ 6 ∷ []) ≡ 2 ∷ 2 ∷ 3 ∷ 2 ∷ 4 ∷ 6 ∷ []
unfolding free made backward back_bookings next_moved movable may_move start_at last_by
    last_below fits duration demand capacity capacity_at successors_of
free_backward = refl

free_list : key_list free (key_in (2 ∷ 2 ∷ 3 ∷ 2 ∷ 4 ∷ 6 ∷ [])) ≡ 1 ∷ 2 ∷ 4 ∷ 3 ∷ 5 ∷ 6 ∷ []
unfolding free made key_list choices choice eligible is_eligible first_from predecessors_of
    precedes successors_of
free_list = refl

free_forward : forward free (0 ∷ 2 ∷ 3 ∷ 0 ∷ 0 ∷ 6 ∷ []) ≡ 0 ∷ 0 ∷ 1 ∷ 0 ∷ 2 ∷ 4 ∷ []
unfolding free made forward backward back_bookings next_moved movable may_move start_at last_by
    last_below fits duration demand capacity capacity_at successors_of key_list choices choice
    eligible is_eligible first_from predecessors_of precedes serial_schedule serial_bookings
    least_start least_from last_change
free_forward = refl

-- a round shortens it, and a second one does not
free_improved : improved free (0 ∷ 2 ∷ 3 ∷ 0 ∷ 0 ∷ 6 ∷ []) ≡ 0 ∷ 0 ∷ 1 ∷ 0 ∷ 2 ∷ 4 ∷ []
unfolding free made improved improved_within forward backward back_bookings next_moved movable
    may_move start_at last_by last_below fits duration demand capacity capacity_at successors_of
    key_list choices choice eligible is_eligible first_from predecessors_of precedes
    serial_schedule serial_bookings least_start least_from last_change
free_improved = refl

-- six activities, one resource of capacity 2, which falls to 0 in periods 1 and 2
six : Project
six = made (2 ∷ []) (0 ∷ 3 ∷ 2 ∷ 2 ∷ 1 ∷ 0 ∷ []) (0 ∷ 2 ∷ 1 ∷ 1 ∷ 1 ∷ 0 ∷ [])
    ((2 ∷ 3 ∷ 4 ∷ []) ∷ (5 ∷ []) ∷ (6 ∷ []) ∷ (6 ∷ []) ∷ (6 ∷ []) ∷ [] ∷ [])

six_with_a_pause : Project
six_with_a_pause = record six {
  changes = record { resource = 1; period = 1; capacity = 0 }
      ∷ record { resource = 1; period = 3; capacity = 2 } ∷ [];
}

six_backward : backward six_with_a_pause (0 ∷ 3 ∷ 6 ∷ 6 ∷ 8 ∷ 9 ∷ []) ≡ 3 ∷ 3 ∷ 6 ∷ 7 ∷ 8 ∷ 9 ∷ []
unfolding six_with_a_pause six made backward back_bookings next_moved movable may_move start_at
    last_by last_below fits duration demand capacity capacity_at successors_of
six_backward = refl

six_stays : improved six_with_a_pause (0 ∷ 3 ∷ 6 ∷ 6 ∷ 8 ∷ 9 ∷ []) ≡ 0 ∷ 3 ∷ 6 ∷ 6 ∷ 8 ∷ 9 ∷ []
unfolding six_with_a_pause six made improved improved_within forward backward back_bookings
    next_moved movable may_move start_at last_by last_below fits duration demand capacity
    capacity_at successors_of key_list choices choice eligible is_eligible first_from
    predecessors_of precedes serial_schedule serial_bookings least_start least_from last_change
six_stays = refl
