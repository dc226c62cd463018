use Rattle.std.proofs.Common.{◌≡◌, ◌++◌}
use Rattle.std.specs.Prelude.{codes}
use Rattle.std.specs.List.{flat_map}
use Rattle.std.specs.String.{string_bytes}
use Rattle.rc_instance.specs.Schedule.{bookings_of}
use Rattle.gantt_table.specs.Table.{table_row}
use Rattle.gantt_table.proofs.PieceLaws.{pieces_from}
use Rattle.gantt_table.proofs.table_text.table.Given as goal

abbrev pub invariant-loop-activity : goal.invariant-loop-activity
invariant-loop-activity l =
    string_bytes l.text ++ pieces_from (table_row l.instance) l.schedule l.activity-counter
    ≡ codes "activity   start  finish\n" ++ flat_map (table_row l.instance) (bookings_of l.schedule)
