-- The table of a schedule, byte for byte.
use Rattle.std.specs.Prelude.{ℕ, List, ◌++◌, codes}
use Rattle.std.specs.List.{flat_map}
use Rattle.std.specs.Fmt.{decimal}
use Rattle.rc_instance.specs.Project.{Project}
use Rattle.rc_instance.specs.Usage.{Booking, finish}
use Rattle.rc_instance.specs.Schedule.{bookings_of, makespan}
use Rattle.rc_edge.specs.Written.{placed}

-- the line of a booking: its activity, start and finish, each right in 8 places
unfoldable pub table_row : Project → Booking → List ℕ
table_row project booking =
    placed 8 booking.activity ++ placed 8 booking.start ++ placed 8 (finish project booking)
    ++ codes "\n"

-- the table of a schedule: a head, a line for each activity in order of number, and the makespan
unfoldable pub table_text : Project → List ℕ → List ℕ
table_text project starts =
    codes "activity   start  finish\n" ++ flat_map (table_row project) (bookings_of starts)
    ++ codes "makespan " ++ decimal (makespan project starts) ++ codes "\n"
