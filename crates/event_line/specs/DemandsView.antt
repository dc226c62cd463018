-- How a vector is seen as a list of demands, and what it keeps.
use Rattle.std.specs.Prelude.{◌≡◌, ℕ, ◌≤◌, List, take, slice_index}
use Rattle.event_line.specs.declared.lanes.TheConstants.{LANES}
use Rattle.event_line.specs.declared.demands.Demands.TheInside.{Inside}
use Rattle.event_line.specs.Lanes.{IsVector}

-- as many lanes as there are resources
abbrev pub demands_of : Inside → List ℕ
demands_of inside = take inside.width inside.vector

-- what the fields of all demands keep: nothing is demanded past the resources
pub record KeepsDemands (inside : Inside) : Type 0 where
  pub narrow : inside.width ≤ LANES
  pub whole : IsVector inside.vector
  pub rest : (j : ℕ) → inside.width ≤ j → slice_index inside.vector j ≡ 0
