use Rattle.std.proofs.Common.{◌≡◌, ◌++◌, ◌∙◌, arith, append_assoc, lit<}
use lib.Utf8.{encode}
use Rattle.std.specs.Prelude.{codes}
use Rattle.std.specs.List.{flat_map}
use Rattle.std.specs.Fmt.{decimal}
use Rattle.std.specs.String.{string_bytes}
use Rattle.rc_instance.specs.Schedule.{bookings_of}
use Rattle.gantt_table.specs.Chart.{chart_text, chart_row}
use Rattle.rc_edge.proofs.PlaceLaws.{styled_decimal-placed}
use Rattle.gantt_table.proofs.PieceLaws.{piece_written, pieces_written, booking_of, line_added}
use Rattle.gantt_table.proofs.chart_text.chart.Goals as goal

pub loop-activity-preserved : goal.loop-activity-preserved
unfolding chart_row encode
loop-activity-preserved c =
    let a = c.loop-activity.activity-counter in
    let before = string_bytes c.loop-activity.text in
    let label = rw c.laid_out.ensures at c.in_ok-write-2.ensures.bytes in
    let row : string_bytes c.push.new.self
    ≡ before ++ chart_row c.args.instance.now c.makespan.result (booking_of c.args.schedule.now a) =
    c.in_ok-push.ensures.bytes ∙ rw (
      c.in_ok-push_bar.ensures,
      label,
      styled_decimal-placed 4 a (lit< tt),
      c.of-columns.ensures.width,
      c.of-columns.ensures.count,
      c.start-start.ensures,
      c.finish_of-finish.ensures,
    ) (simp append_assoc) in
    piece_written _ _ before _ _ a (omega arith) (omega (arith, c.requires.count)) row
    c.loop-activity.invariant

pub returns : goal.returns
unfolding chart_text
returns c =
    let makespan = c.makespan.result in
    let head = codes "column " ++ decimal c.of-columns.result.width ++ codes "\n" in
    let bookings = bookings_of c.args.schedule.now in
    let rows = flat_map (chart_row c.args.instance.now makespan) bookings in
    let written = pieces_written _ _ (string_bytes c.loop-activity.text) _
    c.loop-activity.activity-counter (omega arith) c.loop-activity.invariant in
    rw (c.into_bytes.ensures.value, ← c.makespan.ensures, ← c.of-columns.ensures.width)
    (c.in_ok-write-3.ensures.bytes
    ∙ rw written (line_added (head ++ rows) (codes "makespan ") (decimal makespan) (codes "\n")))
