-- An instance of the resource-constrained project scheduling problem, as contracts see it.
use Rattle.std.specs.Prelude.{◌≡◌, ℕ, ◌+◌, ◌-◌, ◌*◌, ◌<◌, ◌≤◌, ◌&&◌, Bool, true, List, [], length, map, slice_index, slice_index_or, nat_eq, nat_le, if◌then◌else◌, IsTrue}
use Rattle.std.specs.List.{fold, sum}
use Rattle.rc_instance.specs.declared.change.Change.{Change}
use Rattle.rc_instance.specs.Lists.{greatest, names}

-- activities and resources are numbered from 1, each list is in order of number
pub record Project : Type 0 where
  pub capacities : List ℕ  -- of each resource, before any change
  pub durations : List ℕ  -- of each activity, in periods
  pub demands : List ℕ  -- of each activity, for one resource after the other
  pub successors : List (List ℕ)  -- the direct successors of each activity
  pub changes : List Change  -- the calendar: how capacities change over time

abbrev pub activity_count : Project → ℕ
activity_count project = length project.durations

abbrev pub resource_count : Project → ℕ
resource_count project = length project.capacities

abbrev pub IsActivity : Project → ℕ → Type 0
IsActivity project a = (1 ≤ a) × (a ≤ activity_count project)

abbrev pub IsResource : Project → ℕ → Type 0
IsResource project k = (1 ≤ k) × (k ≤ resource_count project)

-- how many periods an activity takes
unfoldable pub duration : Project → ℕ → ℕ
duration project a = slice_index project.durations (a - 1)

-- how much of a resource an activity uses in each period in which it runs
unfoldable pub demand : Project → ℕ → ℕ → ℕ
demand project a k = slice_index project.demands ((a - 1) * resource_count project + (k - 1))

-- the list has the demand of the activity for each resource, in order
pub record AreDemands (project : Project) (a : ℕ) (demands : List ℕ) : Type 0 where
  pub count : length demands ≡ resource_count project
  pub each : (j : ℕ) → j < resource_count project → slice_index demands j ≡ demand project a (j + 1)

-- the capacity of a resource before any change
unfoldable pub capacity : Project → ℕ → ℕ
capacity project k = slice_index project.capacities (k - 1)

-- the capacity of a resource once the changes that apply have come, one after the other
abbrev pub capacity_by : Project → ℕ → (Change → Bool) → ℕ
capacity_by project k applies =
    fold (λ now change. if nat_eq change.resource k && applies change then change.capacity else now) (capacity project k) project.changes

-- the capacity of a resource in a period: that of its latest change up to then
unfoldable pub capacity_at : Project → ℕ → ℕ → ℕ
capacity_at project k p = capacity_by project k (λ change. nat_le change.period p)

-- the capacity of a resource after all changes
unfoldable pub last_capacity : Project → ℕ → ℕ
last_capacity project k = capacity_by project k (λ _. true)

-- the latest period in which a capacity changes, or 0
unfoldable pub last_change : Project → ℕ
last_change project = greatest (map (λ (change : Change). change.period) project.changes)

-- the sum of all durations
abbrev pub duration_sum : Project → ℕ
duration_sum project = sum project.durations

-- a period by which everything can have ended: the last change, and all durations after it
abbrev pub horizon : Project → ℕ
horizon project = last_change project + duration_sum project

-- the direct successors of an activity
unfoldable pub successors_of : Project → ℕ → List ℕ
successors_of project a = slice_index_or project.successors (a - 1) []

-- whether b is a direct successor of a
unfoldable pub precedes : Project → ℕ → ℕ → Bool
precedes project a b = names (successors_of project a) b

-- b is a direct successor of a: it starts at the finish of a, or later
abbrev pub Precedes : Project → ℕ → ℕ → Type 0
Precedes project a b = IsTrue (precedes project a b)
