use Rattle.std.proofs.Common.{◌∙◌, arith}
use Rattle.rc_edge.proofs.NumberedLaws.{capacities_more}
use Rattle.patterson_read.proofs.write.capacities.Goals as goal

pub loop-resource-preserved : goal.loop-resource-preserved
loop-resource-preserved c =
    c.in_ok-push.ensures.items
    ∙ rw (c.loop-resource.invariant, c.capacity.ensures.value)
    (capacities_more c.args.instance.now c.loop-resource.resource (omega arith))
