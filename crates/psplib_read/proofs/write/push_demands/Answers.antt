use Rattle.std.proofs.Common.{◌<◌, ◌^◌, ◌-◌, ◌∙◌, map, arith, lit<}
use Rattle.std.proofs.lemmas.List.{flat_map_more}
use Rattle.std.specs.String.{string_bytes}
use Rattle.rc_instance.specs.Lists.{numbers}
use Rattle.rc_instance.specs.Project.{demand}
use Rattle.rc_edge.proofs.NumberedLaws.{map-numbers_more, holds_more}
use Rattle.rc_edge.proofs.PlaceLaws.{styled_decimal-placed}
use Rattle.psplib_read.specs.Written.{column}
use Rattle.psplib_read.proofs.write.push_demands.Goals as goal

pub loop-resource-preserved : goal.loop-resource-preserved
loop-resource-preserved c =
    let k = c.loop-resource.resource in
    let so_far = c.loop-resource.invariant in
    let each = demand c.args.instance.now c.args.job in record {
      written = rw c.laid_out.ensures at c.in_ok-write.ensures.bytes
          ∙ rw (
            styled_decimal-placed 7 c.demand.result (lit< tt),
            so_far.written,
            c.demand.ensures,
            map-numbers_more each k (omega arith),
          )
          (flat_map_more (column 7) (string_bytes c.args.text.now) (map each (numbers (k - 1)))
          (each k));
      within = omega (arith, c.resources-resource-end.ensures.value);
      small = holds_more (λ k. each k < 2 ^ 32) k so_far.small (omega (arith, c.demand.ensures));
    }
