-- What the nodes of a chain show of a project and its bookings.
use Rattle.std.specs.Prelude.{◌≡◌, ℕ, ◌+◌, ◌-◌, ◌^◌, ◌<◌, List, [], length, slice_index, slice_index_or}
use Rattle.std.specs.List.{All}
use Rattle.rc_instance.specs.declared.change.Change.{Change}
use Rattle.rc_instance.specs.Project.{Project, IsActivity, resource_count, duration, demand, capacity, capacity_at}
use Rattle.rc_instance.specs.Usage.{Booking, usage}
use Rattle.event_line.specs.Rows.{left_at}

-- one of the first n nodes stands at period p
abbrev pub HasNode : List ℕ → ℕ → ℕ → Type 0
HasNode periods n p = (i : ℕ) × (i < n) × (slice_index periods i ≡ p)

-- one of the first n nodes stands at each change of a capacity
abbrev pub HasChanges : Project → List ℕ → ℕ → Type 0
HasChanges project periods n = All (λ (change : Change). HasNode periods n change.period) project.changes

-- the rows have the capacities before any change
pub record ShowsFirstCapacities (project : Project) (periods : List ℕ) (free : List (List ℕ)) : Type 0 where
  pub each : (i j : ℕ) → i < length periods → j < resource_count project
      → left_at free i j ≡ capacity project (j + 1)

-- the rows have the capacities in the periods of their nodes
pub record ShowsCapacities (project : Project) (periods : List ℕ) (free : List (List ℕ)) : Type 0 where
  pub each : (i j : ℕ) → i < length periods → j < resource_count project
      → left_at free i j ≡ capacity_at project (j + 1) (slice_index periods i)

-- the rows have what the bookings leave of each capacity in the periods of their nodes
pub record ShowsFree (project : Project) (bookings : List Booking) (periods : List ℕ)
    (free : List (List ℕ)) : Type 0 where
  pub left : (i j : ℕ) → i < length periods → j < resource_count project
      → left_at free i j + usage project bookings (j + 1) (slice_index periods i)
      ≡ capacity_at project (j + 1) (slice_index periods i)

-- the list has the demand of activity a for each resource, in order, where it fits a row
pub record PacksDemands (project : Project) (a : ℕ) (demands : List ℕ) : Type 0 where
  pub count : length demands ≡ resource_count project
  pub each : (j : ℕ) → j < resource_count project → demand project a (j + 1) < 2 ^ 16
      → slice_index demands j ≡ demand project a (j + 1)

-- each activity has its demands, in order of number
pub record ShowsDemands (project : Project) (demands : List (List ℕ)) : Type 0 where
  pub each : (a : ℕ) → IsActivity project a
      → PacksDemands project a (slice_index_or demands (a - 1) [])

-- the list has the demands of activity a, if it takes time
pub record RunsWith (project : Project) (a : ℕ) (demands : List ℕ) : Type 0 where
  pub count : length demands ≡ resource_count project
  pub each : (j : ℕ) → j < resource_count project → 0 < duration project a
      → slice_index demands j ≡ demand project a (j + 1)
