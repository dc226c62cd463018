use Rattle.std.proofs.Common.{◌+◌, sym, subst, ap, ◌∙◌, arith, length, length-set}
use Rattle.fwd_back.proofs.BookedLaws.{SameBefore, SameBefore_more, SameBefore_all}
use Rattle.fwd_back.proofs.rounds.copy_of.Goals as goal

pub loop-activity-preserved : goal.loop-activity-preserved
loop-activity-preserved c =
    let l = c.loop-activity in
    let from = c.args.schedule.now in
    record {
      count = ap length c.set.ensures ∙ (length-set _ _ _ ∙ l.invariant.count);
      same = subst (SameBefore (l.activity + 1) from) (sym c.set.ensures)
          (SameBefore_more from l.copy l.activity c.start.result l.auto.activity
          (omega (arith, l.invariant.count)) c.start.ensures l.invariant.same);
    }

pub returns : goal.returns
returns c =
    let l = c.loop-activity in
    SameBefore_all c.args.schedule.now l.copy l.activity
    (l.invariant.count ∙ sym c.requires.count) (omega arith) l.invariant.same
