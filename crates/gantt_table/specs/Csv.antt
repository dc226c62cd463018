-- The CSV of a schedule, byte for byte.
use Rattle.std.specs.Prelude.{ℕ, List, ◌++◌, codes}
use Rattle.std.specs.List.{flat_map}
use Rattle.std.specs.Fmt.{decimal}
use Rattle.rc_instance.specs.Project.{Project}
use Rattle.rc_instance.specs.Usage.{Booking, finish}
use Rattle.rc_instance.specs.Schedule.{bookings_of}

-- a record of three numbers, with commas between them
abbrev pub csv_record : ℕ → ℕ → ℕ → List ℕ
csv_record first second third =
    decimal first ++ codes "," ++ decimal second ++ codes "," ++ decimal third ++ codes "\n"

-- the record of a booking: its activity, start and finish
unfoldable pub csv_row : Project → Booking → List ℕ
csv_row project booking = csv_record booking.activity booking.start (finish project booking)

-- the CSV of a schedule: a header, and a record for each activity in order of number
unfoldable pub csv_text : Project → List ℕ → List ℕ
csv_text project starts =
    codes "activity,start,finish\n" ++ flat_map (csv_row project) (bookings_of starts)
