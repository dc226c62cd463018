-- How parts become an instance, and the first limit that they pass.
use Rattle.std.specs.Prelude.{ℕ, ◌+◌, ◌||◌, ◌==◌, List, [], ◌∷◌, length, map, Option, None, Some, nat_lt, if◌then◌else◌}
use Rattle.std.specs.List.{filter, find, sum}
use Rattle.std.specs.Option.{option_map}
use Rattle.rc_instance.specs.declared.parts.Parts.{Parts}
use Rattle.rc_instance.specs.declared.parts.InstanceFault.{InstanceFault}
use Rattle.rc_instance.specs.declared.parts.InstanceFault.TheVariants.{NoActivity, TooManyActivities, TooManyResources, CapacityTooLarge, SuccessorOutOfRange, TooLong}
use Rattle.rc_instance.specs.declared.limits.TheConstants.{MAX_ACTIVITIES, MAX_RESOURCES, MAX_CAPACITY, MAX_DURATION_SUM}
use Rattle.rc_instance.specs.Lists.{or_else, names, numbers}
use Rattle.rc_instance.specs.Project.{Project}

-- the numbers from 1 to count that a list names, each once, in rising order
abbrev pub named_up_to : ℕ → List ℕ → List ℕ
named_up_to count list = filter (names list) (numbers count)

-- the instance of these lists: a successor that is named more than once counts once, and no capacity changes
unfoldable pub made : List ℕ → List ℕ → List ℕ → List (List ℕ) → Project
made capacities durations demands successors = record {
  capacities = capacities;
  durations = durations;
  demands = demands;
  successors = map (named_up_to (length durations)) successors;
  changes = [];
}

-- the first capacity above the limit; the list begins at resource k
unfoldable pub large_capacity : ℕ → List ℕ → Option InstanceFault
large_capacity k [] = None
large_capacity k (c ∷ cs) = if nat_lt MAX_CAPACITY c then Some (CapacityTooLarge k c) else large_capacity (k + 1) cs

-- the first successor of activity a that is no number from 1 to n
abbrev pub wild_successor_of : ℕ → ℕ → List ℕ → Option InstanceFault
wild_successor_of n a list =
    option_map (λ b. SuccessorOutOfRange a b) (find (λ b. b == 0 || nat_lt n b) list)

-- the first such successor of the least activity; the lists begin at activity a
unfoldable pub wild_successor : ℕ → ℕ → List (List ℕ) → Option InstanceFault
wild_successor n a [] = None
wild_successor n a (bs ∷ rest) = or_else (wild_successor_of n a bs) (wild_successor n (a + 1) rest)

-- the sum of the durations, where it is above the limit
abbrev pub long_sum : List ℕ → Option InstanceFault
long_sum durations = if nat_lt MAX_DURATION_SUM (sum durations) then Some (TooLong (sum durations)) else None

-- the first limit that is passed, in the order of the enum
unfoldable pub first_fault : List ℕ → List ℕ → List (List ℕ) → Option InstanceFault
first_fault capacities durations successors =
    let n = length durations in
    if n == 0 then Some NoActivity
    else if nat_lt MAX_ACTIVITIES n then Some (TooManyActivities n)
    else if nat_lt MAX_RESOURCES (length capacities) then Some (TooManyResources (length capacities))
    else or_else (large_capacity 1 capacities) (or_else (wild_successor n 1 successors) (long_sum durations))

-- the lists that parts hold: their instance, and the first limit that they pass
abbrev pub made_of : Parts → Project
made_of parts = made parts.capacities.items parts.durations.items parts.demands.items (map (λ list. list.items) parts.successors.items)

abbrev pub first_fault_of : Parts → Option InstanceFault
first_fault_of parts = first_fault parts.capacities.items parts.durations.items (map (λ list. list.items) parts.successors.items)
