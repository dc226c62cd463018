-- Worked instances, computed from the definitions.
use Rattle.std.proofs.Common.{◌≡◌, [], ◌∷◌, map, refl}
use Rattle.rc_instance.specs.Lists.{numbers}
use Rattle.rc_instance.specs.Project.{Project, duration, demand, capacity, successors_of, precedes}
use Rattle.rc_instance.specs.Parts.{made}
use Rattle.activity_net.specs.Network.{predecessors_of}
use Rattle.time_windows.specs.Windows.{earliest_within, tail_within, earliest_of, tail_of, critical_of, latest_of}
use Rattle.time_windows.specs.CapacityBound.{top_capacity, work, is_enough, bound_by, capacity_bound_of}

-- six activities, one resource of capacity 2
six : Project
six = made (2 ∷ []) (0 ∷ 3 ∷ 2 ∷ 2 ∷ 1 ∷ 0 ∷ []) (0 ∷ 2 ∷ 1 ∷ 1 ∷ 1 ∷ 0 ∷ [])
    ((2 ∷ 3 ∷ 4 ∷ []) ∷ (5 ∷ []) ∷ (6 ∷ []) ∷ (6 ∷ []) ∷ (6 ∷ []) ∷ [] ∷ [])

six_earliest : map (earliest_of six) (numbers 6) ≡ 0 ∷ 0 ∷ 0 ∷ 0 ∷ 3 ∷ 4 ∷ []
unfolding six made earliest_of earliest_within duration predecessors_of precedes successors_of
six_earliest = refl

six_latest : map (latest_of six) (numbers 6) ≡ 0 ∷ 0 ∷ 2 ∷ 2 ∷ 3 ∷ 4 ∷ []
unfolding six made critical_of tail_of tail_within duration successors_of
six_latest = refl

six_critical : critical_of six ≡ 4
unfolding six made critical_of tail_of tail_within duration successors_of
six_critical = refl

six_bound : capacity_bound_of six ≡ 6
unfolding six made capacity_bound_of bound_by top_capacity work is_enough duration demand capacity
six_bound = refl

-- the capacity is 4 in one period: the work of 11 takes three
six_with_more : Project
six_with_more = record six {
  changes = record { resource = 1; period = 1; capacity = 4 }
      ∷ record { resource = 1; period = 2; capacity = 1 } ∷ [];
}

six_with_more_bound : capacity_bound_of six_with_more ≡ 3
unfolding six_with_more six made capacity_bound_of bound_by top_capacity work is_enough duration
    demand capacity
six_with_more_bound = refl

-- no resource, one of which there is none, one of which an activity demands more, and one that
-- an activity of no duration demands more of
no_resource_bound : capacity_bound_of (made [] (3 ∷ []) [] ([] ∷ [])) ≡ 0
unfolding made capacity_bound_of
no_resource_bound = refl

no_capacity_bound : capacity_bound_of (made (0 ∷ []) (3 ∷ []) (0 ∷ []) ([] ∷ [])) ≡ 0
unfolding made capacity_bound_of bound_by top_capacity work is_enough duration demand capacity
no_capacity_bound = refl

exceeded_bound : capacity_bound_of (made (2 ∷ []) (3 ∷ []) (3 ∷ []) ([] ∷ [])) ≡ 0
unfolding made capacity_bound_of bound_by top_capacity work is_enough duration demand capacity
exceeded_bound = refl

idle_demand_bound : capacity_bound_of (made (2 ∷ []) (3 ∷ 0 ∷ []) (1 ∷ 3 ∷ []) ([] ∷ [] ∷ [])) ≡ 2
unfolding made capacity_bound_of bound_by top_capacity work is_enough duration demand capacity
idle_demand_bound = refl
