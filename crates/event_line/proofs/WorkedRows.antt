-- Worked rows, computed from the definitions.
use Rattle.std.proofs.Common.{◌≡◌, List, [], ◌∷◌, refl}
use Rattle.rc_instance.specs.Lists.{first_from, last_below}
use Rattle.rc_instance.specs.Project.{Project, capacity, capacity_at, last_change, duration, demand}
use Rattle.rc_instance.specs.Usage.{fits, last_by, least_from}
use Rattle.event_line.specs.declared.entry.Entry.{Entry}
use Rattle.event_line.specs.Rows.{share}
use Rattle.event_line.specs.Journal.{bookings_in, nodes_with}

-- a demand of 2 in periods 0, 1 and 2
runs : share (2 ∷ []) 0 3 2 0 ≡ 2
runs = refl

has_ended : share (2 ∷ []) 0 3 3 0 ≡ 0
has_ended = refl

-- two activities, one after the other: the second begins at the node at which the first one ends
journal : List Entry
journal =
    record { activity = 2; start = 0; first = 1; end = 2; nodes = 3 }
    ∷ record { activity = 3; start = 3; first = 2; end = 3; nodes = 4 } ∷ []

tells : bookings_in journal
    ≡ record { activity = 2; start = 0 } ∷ record { activity = 3; start = 3 } ∷ []
unfolding journal
tells = refl

has_nodes : nodes_with 2 journal ≡ 4
unfolding journal
has_nodes = refl

-- six activities on one resource of capacity 2, of which the second and the third are booked
six : Project
six = record {
  capacities = 2 ∷ [];
  durations = 0 ∷ 3 ∷ 2 ∷ 2 ∷ 1 ∷ 0 ∷ [];
  demands = 0 ∷ 2 ∷ 1 ∷ 1 ∷ 1 ∷ 0 ∷ [];
  successors = [] ∷ [] ∷ [] ∷ [] ∷ [] ∷ [] ∷ [];
  changes = [];
}

-- the fourth starts with the third, at the earliest, and just before the end, at the latest
starts_beside : least_from six (bookings_in journal) 4 0 ≡ 3
unfolding six journal fits least_from first_from last_change capacity capacity_at duration demand
starts_beside = refl

starts_late : last_by six (bookings_in journal) 4 9 ≡ 7
unfolding six journal fits last_by last_below capacity capacity_at duration demand
starts_late = refl
