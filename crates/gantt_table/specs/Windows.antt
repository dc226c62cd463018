-- The table of time windows, byte for byte.
use Rattle.std.specs.Prelude.{ℕ, List, ◌++◌, codes}
use Rattle.std.specs.List.{flat_map}
use Rattle.std.specs.Fmt.{decimal}
use Rattle.rc_instance.specs.Lists.{numbers}
use Rattle.rc_instance.specs.Project.{Project, activity_count}
use Rattle.time_windows.specs.CapacityBound.{capacity_bound_of}
use Rattle.time_windows.specs.Windows.{critical_of, earliest_of, latest_of}
use Rattle.rc_edge.specs.Written.{placed}

-- the line of an activity: its number right in 8 places, its earliest and latest start each in 10
unfoldable pub window_row : Project → ℕ → List ℕ
window_row project a =
    placed 8 a ++ placed 10 (earliest_of project a) ++ placed 10 (latest_of project a) ++ codes "\n"

-- the table of windows: a head, a line for each activity in order of number, and the two bounds
unfoldable pub window_text : Project → List ℕ
window_text project =
    codes "activity  earliest    latest\n"
    ++ flat_map (window_row project) (numbers (activity_count project))
    ++ codes "critical " ++ decimal (critical_of project) ++ codes "\n"
    ++ codes "capacity " ++ decimal (capacity_bound_of project) ++ codes "\n"
