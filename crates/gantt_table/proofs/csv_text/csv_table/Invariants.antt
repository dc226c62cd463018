use Rattle.std.proofs.Common.{◌≡◌, ◌++◌, List, ℕ}
use Rattle.gantt_table.specs.Csv.{csv_row, csv_text}
use Rattle.gantt_table.specs.Writing.{HasWritten}
use Rattle.gantt_table.proofs.PieceLaws.{pieces_from}
use Rattle.gantt_table.proofs.csv_text.csv_table.Given as goal

abbrev pub invariant-loop-activity : goal.invariant-loop-activity
invariant-loop-activity l =
    (text : List ℕ) × HasWritten text l.writer
    × (text ++ pieces_from (csv_row l.instance) l.schedule l.activity
    ≡ csv_text l.instance l.schedule)
