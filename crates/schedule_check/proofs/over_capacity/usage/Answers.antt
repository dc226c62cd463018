use Rattle.std.proofs.Common.{arith}
use Rattle.schedule_check.proofs.StepLaws.{usage_next}
use Rattle.schedule_check.proofs.over_capacity.usage.Goals as goal

pub loop-activity-preserved : goal.loop-activity-preserved
loop-activity-preserved c =
    let a = c.loop-activity.activity in
    let next = usage_next c.args.instance.now c.args.schedule.now a c.args.resource c.args.period
    (omega arith) (omega (arith, c.requires.count, c.count-activity-end.ensures.value)) in
    (omega (arith, next, c.use_of.ensures), omega arith)
