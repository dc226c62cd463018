-- A chain of nodes, each at a period of its own, as the list of these periods: a node is a place of it.
use Rattle.std.specs.Prelude.{◌≡◌, ℕ, ◌<◌, ◌≤◌, List, length, slice_index}
use Rattle.event_line.specs.declared.chain.TheConstants.{HEAD, TAIL, FAR}

-- the periods of the nodes, in the order in which they were made, and how many nodes there may be
pub record Nodes : Type 0 where
  pub periods : List ℕ
  pub room : ℕ

-- the head stands at period 0, the tail after all others, and no two nodes at one period
pub record IsChain (periods : List ℕ) : Type 0 where
  pub some : 2 ≤ length periods
  pub head : slice_index periods HEAD ≡ 0
  pub tail : slice_index periods TAIL ≡ FAR
  pub within : (i : ℕ) → i < length periods → slice_index periods i ≤ FAR
  pub apart : (i j : ℕ) → i < length periods → j < length periods
      → slice_index periods i ≡ slice_index periods j → i ≡ j

-- node j is the next one after node i: none stands between them
pub record AreNeighbours (periods : List ℕ) (i j : ℕ) : Type 0 where
  pub first : i < length periods
  pub second : j < length periods
  pub rise : slice_index periods i < slice_index periods j
  pub none : (x : ℕ) → x < length periods → slice_index periods i < slice_index periods x
      → slice_index periods j ≤ slice_index periods x

-- node i stands for period p: it is the latest node up to then
pub record StandsFor (periods : List ℕ) (i p : ℕ) : Type 0 where
  pub inside : i < length periods
  pub from : slice_index periods i ≤ p
  pub latest : (x : ℕ) → x < length periods → slice_index periods x ≤ p
      → slice_index periods x ≤ slice_index periods i

-- the nodes stay, and others may come after them
pub record IsLonger (periods periods' : List ℕ) : Type 0 where
  pub long : length periods ≤ length periods'
  pub same : (i : ℕ) → i < length periods → slice_index periods' i ≡ slice_index periods i
