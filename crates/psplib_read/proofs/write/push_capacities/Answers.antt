use Rattle.std.proofs.Common.{◌-◌, ◌∙◌, take, arith, lit<}
use Rattle.std.proofs.lemmas.List.{flat_map_more}
use Rattle.std.specs.String.{string_bytes}
use Rattle.rc_instance.specs.Project.{capacity}
use Rattle.rc_edge.proofs.NumberedLaws.{capacities_more}
use Rattle.rc_edge.proofs.PlaceLaws.{styled_decimal-placed}
use Rattle.psplib_read.specs.Written.{column}
use Rattle.psplib_read.proofs.write.push_capacities.Goals as goal

pub loop-resource-preserved : goal.loop-resource-preserved
loop-resource-preserved c =
    let k = c.loop-resource.resource in
    let project = c.args.instance.now in
    rw c.laid_out.ensures at c.in_ok-write.ensures.bytes
    ∙ rw (
      styled_decimal-placed 7 c.capacity.result (lit< tt),
      c.loop-resource.invariant,
      c.capacity.ensures.value,
      ← capacities_more project k (omega arith),
    )
    (flat_map_more (column 7) (string_bytes c.args.text.now) (take (k - 1) project.capacities)
    (capacity project k))
