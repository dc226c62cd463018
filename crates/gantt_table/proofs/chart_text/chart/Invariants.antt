use Rattle.std.proofs.Common.{◌≡◌, ◌++◌}
use Rattle.std.specs.Prelude.{codes}
use Rattle.std.specs.List.{flat_map}
use Rattle.std.specs.Fmt.{decimal}
use Rattle.std.specs.String.{string_bytes}
use Rattle.rc_instance.specs.Schedule.{bookings_of}
use Rattle.gantt_table.specs.Chart.{chart_row}
use Rattle.gantt_table.proofs.PieceLaws.{pieces_from}
use Rattle.gantt_table.proofs.chart_text.chart.Given as goal

abbrev pub invariant-loop-activity : goal.invariant-loop-activity
invariant-loop-activity l =
    string_bytes l.text
    ++ pieces_from (chart_row l.instance l.makespan) l.schedule l.activity-counter
    ≡ codes "column " ++ decimal l.columns.width ++ codes "\n"
    ++ flat_map (chart_row l.instance l.makespan) (bookings_of l.schedule)
