-- Worked rows, computed from the definitions.
use Rattle.std.proofs.Common.{◌≡◌, ℕ, [], ◌∷◌, List, Some, None, true, false, refl}
use Rattle.std.specs.List.{swap}
use Rattle.rc_instance.specs.Project.{Project, successors_of, precedes}
use Rattle.activity_net.specs.declared.fault.ListFault.TheVariants.{Length, Unknown, Repeated, TooEarly}
use Rattle.activity_net.specs.Network.{predecessors_of}
use Rattle.activity_net.specs.Ring.{left_after, stuck, first_stuck, way_back, from_least, shown_ring}
use Rattle.activity_net.specs.Follows.{followers_through, followers, all_successors}
use Rattle.activity_net.specs.ListFault.{next_fault, later_fault, first_list_fault}

-- activities that take one period each, without resources
of_successors : List ℕ → List (List ℕ) → Project
of_successors durations successors = record {
  capacities = [];
  durations = durations;
  demands = [];
  successors = successors;
  changes = [];
}

-- the shown cycles
two : shown_ring (of_successors (1 ∷ 1 ∷ []) ((2 ∷ []) ∷ (1 ∷ []) ∷ [])) ≡ 1 ∷ 2 ∷ []
unfolding of_successors successors_of precedes predecessors_of left_after stuck first_stuck way_back
    from_least shown_ring
two = refl

itself : shown_ring (of_successors (1 ∷ []) ((1 ∷ []) ∷ [])) ≡ 1 ∷ []
unfolding of_successors successors_of precedes predecessors_of left_after stuck first_stuck way_back
    from_least shown_ring
itself = refl

in_order_of_precedence : shown_ring (of_successors (1 ∷ 1 ∷ 1 ∷ 1 ∷ [])
    ((2 ∷ []) ∷ (4 ∷ []) ∷ (2 ∷ []) ∷ (3 ∷ []) ∷ [])) ≡ 2 ∷ 4 ∷ 3 ∷ []
unfolding of_successors successors_of precedes predecessors_of left_after stuck first_stuck way_back
    from_least shown_ring
in_order_of_precedence = refl

two_cycles : Project
two_cycles = of_successors (1 ∷ 1 ∷ 1 ∷ 1 ∷ 1 ∷ 1 ∷ [])
    ([] ∷ [] ∷ (4 ∷ 5 ∷ []) ∷ (3 ∷ []) ∷ (1 ∷ 6 ∷ []) ∷ (5 ∷ []) ∷ [])

one_of_two : shown_ring two_cycles ≡ 3 ∷ 4 ∷ []
unfolding of_successors two_cycles successors_of precedes predecessors_of left_after stuck
    first_stuck way_back from_least shown_ring
one_of_two = refl

-- without a cycle nothing is stuck
six : Project
six = of_successors (0 ∷ 3 ∷ 2 ∷ 2 ∷ 1 ∷ 0 ∷ []) ((2 ∷ 3 ∷ 4 ∷ []) ∷ (5 ∷ []) ∷ (6 ∷ []) ∷ (6 ∷ [])
    ∷ (6 ∷ []) ∷ [] ∷ [])

none_stuck : stuck six ≡ []
unfolding of_successors six successors_of precedes left_after stuck
none_stuck = refl

-- what follows
after_first : followers six 1 ≡ 2 ∷ 3 ∷ 4 ∷ 5 ∷ 6 ∷ []
unfolding of_successors six successors_of precedes followers_through followers
after_first = refl

after_second : all_successors six 2 ≡ 2
unfolding of_successors six successors_of precedes followers_through followers
after_second = refl

after_last : all_successors six 6 ≡ 0
unfolding of_successors six successors_of precedes followers_through followers
after_last = refl

-- faults of lists
short : first_list_fault six (1 ∷ 2 ∷ 3 ∷ []) ≡ Some (Length 3 6)
unfolding of_successors six successors_of precedes predecessors_of next_fault later_fault
    first_list_fault
short = refl

early : first_list_fault six (1 ∷ 5 ∷ 2 ∷ 3 ∷ 4 ∷ 6 ∷ []) ≡ Some (TooEarly 1 2)
unfolding of_successors six successors_of precedes predecessors_of next_fault later_fault
    first_list_fault
early = refl

repeated : first_list_fault six (1 ∷ 2 ∷ 2 ∷ 3 ∷ 4 ∷ 6 ∷ []) ≡ Some (Repeated 2)
unfolding of_successors six successors_of precedes predecessors_of next_fault later_fault
    first_list_fault
repeated = refl

unknown : first_list_fault six (1 ∷ 2 ∷ 9 ∷ 3 ∷ 4 ∷ 6 ∷ []) ≡ Some (Unknown 2)
unfolding of_successors six successors_of precedes predecessors_of next_fault later_fault
    first_list_fault
unknown = refl

feasible : first_list_fault six (1 ∷ 4 ∷ 3 ∷ 2 ∷ 5 ∷ 6 ∷ []) ≡ None
unfolding of_successors six successors_of precedes predecessors_of next_fault later_fault
    first_list_fault
feasible = refl

-- neighbours of the list 1 .. 6: the first two may not be exchanged, the next two may
first_precedes : precedes six 1 2 ≡ true
unfolding of_successors six successors_of precedes
first_precedes = refl

second_does_not : precedes six 2 3 ≡ false
unfolding of_successors six successors_of precedes
second_does_not = refl

exchanged : swap {X = ℕ} (1 ∷ 2 ∷ 3 ∷ 4 ∷ 5 ∷ 6 ∷ []) 1 2 ≡ 1 ∷ 3 ∷ 2 ∷ 4 ∷ 5 ∷ 6 ∷ []
exchanged = refl
