use Rattle.std.proofs.Common.{arith}
use Rattle.trial_instance.specs.Trial.{trial_successors}
use Rattle.trial_instance.proofs.DrawLaws.{lists-next}
use Rattle.trial_instance.proofs.draw.successors.Goals as goal

pub loop-activity-preserved : goal.loop-activity-preserved
loop-activity-preserved c =
    let l = c.loop-activity in
    lists-next (trial_successors c.args.activities c.args.resources c.args.words.now) l.activity
    l.lists.items c.push.new.self.items c.in_ok-successors_of.field-0 (omega arith)
    c.in_ok-push.ensures.items l.invariant c.in_ok-successors_of.ensures
