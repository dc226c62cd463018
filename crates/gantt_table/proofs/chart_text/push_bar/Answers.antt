use Rattle.std.proofs.Common.{◌≡◌, ◌∷◌, [], ◌∙◌, arith, append_assoc}
use lib.Utf8.{encode}
use Rattle.gantt_table.specs.Chart.{mark}
use Rattle.gantt_table.proofs.ColumnLaws.{mark_busy, mark_idle, bar_more}
use Rattle.gantt_table.proofs.chart_text.push_bar.Goals as goal
use Rattle.gantt_table.proofs.chart_text.push_bar.Goals.{then-is_busy, else-is_busy}

pub loop-column-preserved : goal.loop-column-preserved
unfolding encode
loop-column-preserved c =
    let width = c.args.columns.now.width in
    let j = c.loop-column.column in
    let written : encode c.if-is_busy.push ≡ mark width c.args.start c.args.finish j ∷ [] =
    elim c.if-is_busy.branch [
      | then-is_busy w ↦
          rw (
            w.push-is,
            mark_busy width c.args.start c.args.finish j
                (omega (arith, c.max.ensures, c.min.ensures)),
          )
      | else-is_busy w ↦
          rw (
            w.push-is,
            mark_idle width c.args.start c.args.finish j
                (omega (arith, c.max.ensures, c.min.ensures)),
          )
    ] in
    c.in_ok-push.ensures.bytes ∙ rw (written, c.loop-column.invariant, bar_more) (simp append_assoc)
