-- How the fields of a `Chain` are seen as its nodes, and what its links keep.
use Rattle.std.specs.Prelude.{◌≡◌, ℕ, ◌+◌, ◌<◌, ◌≤◌, List, length, slice_index, vec_capacity}
use Rattle.event_line.specs.declared.chain.Chain.TheInside.{Inside}
use Rattle.event_line.specs.declared.chain.TheConstants.{FAR, MAX_NODES}
use Rattle.event_line.specs.Chain.{Nodes, IsChain, AreNeighbours}

-- each node but the tail knows the next one, and each but the head the one before
pub record IsLinked (periods after before : List ℕ) : Type 0 where
  pub chain : IsChain periods
  pub next : (i : ℕ) → i < length periods → slice_index periods i < FAR
      → AreNeighbours periods i (slice_index after i)
  pub previous : (i : ℕ) → i < length periods → 0 < slice_index periods i
      → AreNeighbours periods (slice_index before i) i

-- the periods of the nodes, and for how many nodes there are links
abbrev pub nodes_of : Inside → Nodes
nodes_of inside = record { periods = inside.periods.items; room = length inside.next.items }

-- what the fields of every chain keep
pub record KeepsLinks (inside : Inside) : Type 0 where
  pub linked : IsLinked inside.periods.items inside.next.items inside.previous.items
  pub room : length inside.periods.items ≤ length inside.next.items
  pub pairs : length inside.previous.items ≡ length inside.next.items
  pub reserved : length inside.next.items ≤ vec_capacity inside.periods
  pub few : length inside.next.items ≤ MAX_NODES
