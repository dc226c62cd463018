-- The chart of a schedule, byte for byte: a bar for each activity, a column for so many periods.
use Rattle.std.specs.Prelude.{ℕ, max, ◌*◌, ◌&&◌, Bool, List, ◌++◌, map, codes, nat_le, nat_lt, if◌then◌else◌}
use Rattle.std.specs.Int.{div_ceil}
use Rattle.std.specs.List.{flat_map, list_any, range_with_len}
use Rattle.std.specs.Fmt.{decimal}
use Rattle.rc_instance.specs.Project.{Project}
use Rattle.rc_instance.specs.Usage.{Booking, finish}
use Rattle.rc_instance.specs.Schedule.{bookings_of, makespan}
use Rattle.rc_edge.specs.Written.{placed}

-- how many periods a column covers: as few as let 100 columns cover a makespan, and at least 1
abbrev pub column_width : ℕ → ℕ
column_width makespan = max 1 (div_ceil makespan 100)

-- how many columns cover a makespan
abbrev pub column_count : ℕ → ℕ
column_count makespan = div_ceil makespan (column_width makespan)

-- the byte of `#`, and that of `.`
abbrev pub busy : ℕ
busy = 35

abbrev pub idle : ℕ
idle = 46

-- whether a period lies from a start up to, not including, a finish
abbrev pub runs : ℕ → ℕ → ℕ → Bool
runs start finish p = nat_le start p && nat_lt p finish

-- the character of column j: `#` where a period from start up to finish lies in it, else `.`
abbrev pub mark : ℕ → ℕ → ℕ → ℕ → ℕ
mark width start finish j =
    if list_any (runs start finish) (range_with_len (j * width) width) then busy else idle

-- the characters of so many columns
unfoldable pub bar : ℕ → ℕ → ℕ → ℕ → List ℕ
bar width count start finish = map (mark width start finish) (range_with_len 0 count)

-- the line of a booking: its activity right in 4 places, a space, and its bar
unfoldable pub chart_row : Project → ℕ → Booking → List ℕ
chart_row project makespan booking =
    placed 4 booking.activity ++ codes " "
    ++ bar (column_width makespan) (column_count makespan) booking.start (finish project booking)
    ++ codes "\n"

-- the chart of a schedule: how many periods a column covers, a line for each activity in order of
-- number, and the makespan
unfoldable pub chart_text : Project → List ℕ → List ℕ
chart_text project starts =
    codes "column " ++ decimal (column_width (makespan project starts)) ++ codes "\n"
    ++ flat_map (chart_row project (makespan project starts)) (bookings_of starts)
    ++ codes "makespan " ++ decimal (makespan project starts) ++ codes "\n"
