use Rattle.std.proofs.Common.{◌∙◌, arith}
use Rattle.rc_edge.specs.Written.{HasSmallDemandsAt}
use Rattle.rc_edge.proofs.NumberedLaws.{holds_more}
use Rattle.patterson_read.proofs.WriteLaws.{lines_more, lines_written}
use Rattle.patterson_read.proofs.ReadBackLaws.{written_is_read}
use Rattle.patterson_read.proofs.write.write_rcp.Goals as goal

pub loop-activity-preserved : goal.loop-activity-preserved
loop-activity-preserved c =
    let a = c.loop-activity.activity in
    let so_far = c.loop-activity.invariant in record {
      written = rw c.in_ok-numbers.ensures.value
          at (rw c.deref-in-loop-activity.ensures.value at c.in_ok-push_line-3.ensures)
          ∙ rw so_far.written (lines_more c.args.instance.now a (omega arith));
      within = omega arith;
      small = holds_more (HasSmallDemandsAt c.args.instance.now) a so_far.small
          c.in_ok-numbers.ensures.small;
    }

pub returns-clause-text : goal.returns-clause-text
returns-clause-text c =
    rw c.into_bytes.ensures.value
    (lines_written c.args.instance.now c.loop-activity.activity _
    (omega (arith, c.count-activity-end.ensures.value)) c.loop-activity.invariant.written)

pub returns-clause-read_back : goal.returns-clause-read_back
returns-clause-read_back c =
    rw (returns-clause-text c)
    (written_is_read c.args.instance.now c.count.ensures.limits
    (λ a is. c.loop-activity.invariant.small a (omega arith) (omega arith)))
