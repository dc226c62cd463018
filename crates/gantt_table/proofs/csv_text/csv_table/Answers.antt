use Rattle.std.proofs.Common.{◌++◌, arith, refl}
use Rattle.gantt_table.specs.Csv.{csv_text, csv_row}
use Rattle.gantt_table.proofs.PieceLaws.{piece_written, booking_of}
use Rattle.gantt_table.proofs.csv_text.csv_table.Goals as goal

pub loop-activity-init : goal.loop-activity-init
unfolding csv_text
loop-activity-init c = (_, c.in_ok-writer.ensures, refl)

pub loop-activity-preserved : goal.loop-activity-preserved
unfolding csv_row
loop-activity-preserved c =
    let (text, written, so_far) = c.loop-activity.invariant in
    let a = c.loop-activity.activity in
    let row = csv_row c.args.instance.now (booking_of c.args.schedule.now a) in (
      text ++ row,
      rw (c.start-start.ensures, c.finish_of-finish.ensures)
          at (c.in_ok-write_numbers.ensures text written),
      piece_written _ _ text _ _ a (omega arith) (omega (arith, c.requires.count)) refl so_far,
    )
