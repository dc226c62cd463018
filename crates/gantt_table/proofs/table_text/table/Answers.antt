use Rattle.std.proofs.Common.{◌≡◌, ◌++◌, ◌∙◌, arith, append_assoc, lit<}
use Rattle.std.specs.String.{string_bytes}
use Rattle.gantt_table.specs.Table.{table_text, table_row}
use Rattle.rc_edge.proofs.PlaceLaws.{styled_decimal-placed}
use Rattle.gantt_table.proofs.PieceLaws.{piece_written, pieces_written, booking_of}
use Rattle.gantt_table.proofs.table_text.table.Goals as goal

pub loop-activity-preserved : goal.loop-activity-preserved
unfolding table_row
loop-activity-preserved c =
    let a = c.loop-activity.activity-counter in
    let start = c.start-start.result in
    let finish = c.finish_of-finish.result in
    let before = string_bytes c.loop-activity.text in
    let row : string_bytes c.write.new.self
    ≡ before ++ table_row c.args.instance.now (booking_of c.args.schedule.now a) =
    rw (
      c.laid_out.ensures,
      c.laid_out-in-loop-activity.ensures,
      c.laid_out-in-loop-activity-2.ensures,
    )
    at c.in_ok-write.ensures.bytes
    ∙ rw (
      styled_decimal-placed 8 a (lit< tt),
      styled_decimal-placed 8 start (lit< tt),
      styled_decimal-placed 8 finish (lit< tt),
      c.start-start.ensures,
      c.finish_of-finish.ensures,
    )
    (simp append_assoc) in
    piece_written _ _ before _ _ a (omega arith) (omega (arith, c.requires.count)) row
    c.loop-activity.invariant

pub returns : goal.returns
unfolding table_text
returns c =
    let written = pieces_written _ _ (string_bytes c.loop-activity.text) _
    c.loop-activity.activity-counter (omega arith) c.loop-activity.invariant in
    rw c.into_bytes.ensures.value
    (c.in_ok-write-2.ensures.bytes ∙ rw (written, c.makespan-makespan.ensures) (simp append_assoc))
