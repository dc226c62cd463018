-- Vectors of numbers, one for each resource that an instance may have.
use Rattle.std.specs.Prelude.{◌≡◌, ℕ, ◌^◌, ◌<◌, List, length, slice_index}
use Rattle.event_line.specs.declared.lanes.TheConstants.{LANES}

-- a vector has all its lanes, and each is a number of 16 bits
pub record IsVector (lanes : List ℕ) : Type 0 where
  pub whole : length lanes ≡ LANES
  pub fit : (j : ℕ) → slice_index lanes j < 2 ^ 16
