use Rattle.std.proofs.Common.{◌≡◌, ◌++◌, ◌∙◌, List, ℕ, ap, arith, append_assoc, lit<}
use Rattle.std.specs.Prelude.{codes}
use Rattle.std.specs.String.{string_bytes}
use Rattle.rc_instance.specs.Project.{activity_count}
use Rattle.gantt_table.specs.Windows.{window_text, window_row}
use Rattle.rc_edge.proofs.PlaceLaws.{styled_decimal-placed}
use Rattle.gantt_table.proofs.PieceLaws.{row_written, rows_begin, rows_written}
use Rattle.gantt_table.proofs.window_text.window_table.Goals as goal

pub loop-activity-init : goal.loop-activity-init
loop-activity-init c =
    let project = c.args.net.now.project in
    let head = codes "activity  earliest    latest\n" in
    rows_begin (window_row project) (string_bytes c.push_str.new.self) head (activity_count project)
    (c.in_ok-push_str.ensures.bytes
    ∙ ap (λ (front : List ℕ). front ++ head) c.in_ok-text.ensures.bytes)

pub loop-activity-preserved : goal.loop-activity-preserved
unfolding window_row
loop-activity-preserved c =
    let project = c.args.net.now.project in
    let a = c.loop-activity.activity-counter in
    let before = string_bytes c.loop-activity.text in
    let row : string_bytes c.write.new.self ≡ before ++ window_row project a =
    rw (
      c.laid_out.ensures,
      c.laid_out-in-loop-activity.ensures,
      c.laid_out-in-loop-activity-2.ensures,
    )
    at c.in_ok-write.ensures.bytes
    ∙ rw (
      styled_decimal-placed 8 a (lit< tt),
      styled_decimal-placed 10 c.earliest-earliest.result (lit< tt),
      styled_decimal-placed 10 c.latest-latest.result (lit< tt),
      c.earliest-earliest.ensures.value,
      c.latest-latest.ensures.value,
      c.requires,
    )
    (simp append_assoc) in
    let count : c.count-count.result ≡ activity_count project =
    c.count-count.ensures.value ∙ ap activity_count c.instance.ensures.value in
    row_written _ before _ _ (activity_count project) a (omega (arith, count)) row c.loop-activity.invariant

pub returns : goal.returns
unfolding window_text
returns c =
    let project = c.args.net.now.project in
    let count : c.count-count.result ≡ activity_count project =
    c.count-count.ensures.value ∙ ap activity_count c.instance.ensures.value in
    let written = rows_written _ (string_bytes c.loop-activity.text) _ (activity_count project)
    c.loop-activity.activity-counter (omega (arith, count)) c.loop-activity.invariant in
    rw c.into_bytes.ensures.value
    (c.in_ok-write-2.ensures.bytes ∙ rw (written, c.critical-critical.ensures.value, c.capacity_bound-capacity.ensures.value, c.requires) (simp append_assoc))
