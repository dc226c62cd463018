use Rattle.std.proofs.Common.{◌≡◌, ◌++◌}
use Rattle.std.specs.String.{string_bytes}
use Rattle.gantt_table.specs.Chart.{bar}
use Rattle.gantt_table.proofs.chart_text.push_bar.Given as goal

abbrev pub invariant-loop-column : goal.invariant-loop-column
invariant-loop-column l =
    string_bytes l.text
    ≡ string_bytes l.initial.text ++ bar l.columns.width l.column l.start l.finish
