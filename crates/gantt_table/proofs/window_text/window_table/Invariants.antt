use Rattle.std.proofs.Common.{◌≡◌, ◌++◌}
use Rattle.std.specs.Prelude.{codes}
use Rattle.std.specs.List.{flat_map}
use Rattle.std.specs.String.{string_bytes}
use Rattle.rc_instance.specs.Lists.{numbers}
use Rattle.rc_instance.specs.Project.{activity_count}
use Rattle.gantt_table.specs.Windows.{window_row}
use Rattle.gantt_table.proofs.PieceLaws.{rows_from}
use Rattle.gantt_table.proofs.window_text.window_table.Given as goal

abbrev pub invariant-loop-activity : goal.invariant-loop-activity
invariant-loop-activity l =
    string_bytes l.text ++ rows_from (window_row l.net.project) (activity_count l.net.project) l.activity-counter
    ≡ codes "activity  earliest    latest\n"
    ++ flat_map (window_row l.net.project) (numbers (activity_count l.net.project))
