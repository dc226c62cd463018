-- How vectors are seen as the rows of a table, and what they keep.
use Rattle.std.specs.Prelude.{◌≤◌, map, take}
use Rattle.std.specs.List.{All}
use Rattle.event_line.specs.declared.lanes.TheConstants.{LANES}
use Rattle.event_line.specs.declared.rows.Rows.TheInside.{Inside}
use Rattle.event_line.specs.Lanes.{IsVector}
use Rattle.event_line.specs.Rows.{Table}

-- of each vector, as many lanes as there are resources
abbrev pub table_of : Inside → Table
table_of inside = record {
  width = inside.width;
  rows = map (take inside.width) inside.vectors.items;
}

-- what the fields of all rows keep
pub record KeepsRows (inside : Inside) : Type 0 where
  pub narrow : inside.width ≤ LANES
  pub whole : All IsVector inside.vectors.items
