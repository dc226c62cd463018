use Rattle.std.proofs.Common.{replicate, arith}
use Rattle.trial_instance.specs.Trial.{trial_demands}
use Rattle.trial_instance.proofs.DrawLaws.{demands-next}
use Rattle.trial_instance.proofs.draw.demands.Goals as goal

pub loop-activity-preserved : goal.loop-activity-preserved
loop-activity-preserved c =
    let l = c.loop-activity in
    demands-next (trial_demands c.args.resources c.args.words.now) l.activity
    (replicate c.args.resources 0) l.demands.items c.push_demands.new.demands.items (omega arith)
    c.in_ok-push_demands.ensures l.invariant
