use Rattle.std.proofs.Common.{◌<◌, ◌^◌, arith, append_assoc}
use Rattle.rc_instance.specs.Project.{demand}
use Rattle.rc_edge.proofs.NumberedLaws.{map-numbers_more, holds_more}
use Rattle.patterson_read.proofs.write.push_demands.Goals as goal

pub loop-resource-preserved : goal.loop-resource-preserved
loop-resource-preserved c =
    let resource = c.loop-resource.resource in
    let so_far = c.loop-resource.invariant in
    let each = demand c.args.instance.now c.args.activity in record {
      written = rw (
        c.in_ok-push.ensures.items,
        so_far.written,
        c.demand.ensures,
        map-numbers_more each resource (omega arith),
      )
          (simp append_assoc);
      small = holds_more (λ k. each k < 2 ^ 32) resource so_far.small
          (omega (arith, c.demand.ensures));
    }
