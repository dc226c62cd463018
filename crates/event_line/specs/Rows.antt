-- What is left of the resources at the nodes of a chain: a row for each node, and in it a number for
-- each resource. A list of demands has one for each resource.
use Rattle.std.specs.Prelude.{◌≡◌, ◌≢◌, ℕ, ◌+◌, ◌^◌, ◌<◌, ◌≤◌, ◌&&◌, List, [], length, slice_index, slice_index_or, nat_le, nat_lt, if◌then◌else◌}
use Rattle.event_line.specs.Chain.{StandsFor, IsLonger}

-- rows, and how many resources each tells of
pub record Table : Type 0 where
  pub width : ℕ
  pub rows : List (List ℕ)

-- the row of node i
abbrev pub row_at : List (List ℕ) → ℕ → List ℕ
row_at free i = slice_index_or free i []

-- what is left of resource j at node i, where the first resource is 0
abbrev pub left_at : List (List ℕ) → ℕ → ℕ → ℕ
left_at free i j = slice_index (row_at free i) j

-- what is left at node i is at least the demand for each resource
pub record HasRoom (free : List (List ℕ)) (demands : List ℕ) (i : ℕ) : Type 0 where
  pub within : (j : ℕ) → j < length demands → slice_index demands j ≤ left_at free i j

-- it is less than the demand for some resource
pub record IsFull (periods : List ℕ) (free : List (List ℕ)) (demands : List ℕ) (i : ℕ) : Type 0 where
  pub inside : i < length periods
  pub full : HasRoom free demands i → ⊥

-- the demands are taken from the row of node i, and from no other
pub record IsTakenAt (old new : List (List ℕ)) (demands : List ℕ) (i : ℕ) : Type 0 where
  pub inside : (j : ℕ) → j < length demands
      → left_at new i j + slice_index demands j ≡ left_at old i j
  pub others : (x : ℕ) → x ≢ i → row_at new x ≡ row_at old x

-- the node that stands for period p has room
pub record HasRoomIn (periods : List ℕ) (free : List (List ℕ)) (demands : List ℕ) (p : ℕ) : Type 0 where
  pub at : (i : ℕ) → StandsFor periods i p → HasRoom free demands i

-- each of so many periods from the start on has room
pub record HasRoomFor (periods : List ℕ) (free : List (List ℕ)) (demands : List ℕ)
    (start duration : ℕ) : Type 0 where
  pub each : (p : ℕ) → start ≤ p → p < start + duration → HasRoomIn periods free demands p

-- each node from the first to the last has room
pub record HasRoomFrom (periods : List ℕ) (free : List (List ℕ)) (demands : List ℕ)
    (first last : ℕ) : Type 0 where
  pub each : (i : ℕ) → i < length periods
      → slice_index periods first ≤ slice_index periods i
      → slice_index periods i ≤ slice_index periods last → HasRoom free demands i

-- so has each node from the first up to the end, but not the end
pub record HasRoomBefore (periods : List ℕ) (free : List (List ℕ)) (demands : List ℕ)
    (first end : ℕ) : Type 0 where
  pub each : (i : ℕ) → i < length periods
      → slice_index periods first ≤ slice_index periods i
      → slice_index periods i < slice_index periods end → HasRoom free demands i

-- the demands can be given back at each node from the first up to the end: the sums fit a row
pub record CanTakeBack (periods : List ℕ) (free : List (List ℕ)) (demands : List ℕ)
    (first end : ℕ) : Type 0 where
  pub each : (i j : ℕ) → i < length periods → j < length demands
      → slice_index periods first ≤ slice_index periods i
      → slice_index periods i < slice_index periods end
      → left_at free i j + slice_index demands j < 2 ^ 16

-- the demand for a resource in the periods from one on and before another, and 0 in all others
abbrev pub share : List ℕ → ℕ → ℕ → ℕ → ℕ → ℕ
share demands from end p j = if nat_le from p && nat_lt p end then slice_index demands j else 0

-- the demands are taken at the nodes from a period on and before another one
pub record IsTaken (periods : List ℕ) (old new : List (List ℕ)) (demands : List ℕ)
    (from end : ℕ) : Type 0 where
  pub each : (i j : ℕ) → i < length periods → j < length demands
      → left_at new i j + share demands from end (slice_index periods i) j ≡ left_at old i j

-- each row is that of the node that stood for its period before
pub record HasRowsOf (periods : List ℕ) (free : List (List ℕ)) (periods' : List ℕ)
    (free' : List (List ℕ)) : Type 0 where
  pub each : (i : ℕ) → i < length periods'
      → (o : ℕ) × StandsFor periods o (slice_index periods' i) × (row_at free' i ≡ row_at free o)

-- nodes that were there or are made: none is lost, and each row stays what it was in its period
pub record IsRefined (periods : List ℕ) (free : List (List ℕ)) (periods' : List ℕ)
    (free' : List (List ℕ)) : Type 0 where
  pub longer : IsLonger periods periods'
  pub rows : HasRowsOf periods free periods' free'

-- the demands are taken from the periods from the start on and before the end, and nothing else is:
-- each row has what is left of the row of the node that stood for its period before
pub record IsBooked (periods : List ℕ) (free : List (List ℕ)) (periods' : List ℕ)
    (free' : List (List ℕ)) (demands : List ℕ) (start end : ℕ) : Type 0 where
  pub each : (i : ℕ) → i < length periods' → (o : ℕ) × StandsFor periods o (slice_index periods' i)
      × ((j : ℕ) → j < length demands
      → left_at free' i j + share demands start end (slice_index periods' i) j
      ≡ left_at free o j)
