use Rattle.std.proofs.Common.{◌≡◌, ◌-◌, ◌∙◌, arith, append_assoc}
use lib.Utf8.{encode}
use Rattle.std.proofs.lemmas.List.{flat_map_more}
use Rattle.std.specs.String.{string_bytes}
use Rattle.rc_instance.specs.Lists.{numbers}
use Rattle.rc_instance.specs.Project.{resource_count}
use Rattle.rc_edge.proofs.NumberedLaws.{numbers_more}
use Rattle.psplib_read.specs.Written.{resource_name, resource_names}
use Rattle.psplib_read.proofs.write.push_names.Goals as goal

pub loop-resource-preserved : goal.loop-resource-preserved
loop-resource-preserved c =
    let k = c.loop-resource.resource-counter in
    record {
      written = c.in_ok-write.ensures.bytes
          ∙ rw (c.loop-resource.invariant.written, numbers_more k (omega arith))
          (flat_map_more resource_name (string_bytes c.args.text.now) (numbers (k - 1)) k);
      within = omega (arith, c.resources-resource-end.ensures.value);
    }

pub returns : goal.returns
unfolding resource_names encode
returns c =
    let all : c.loop-resource.resource-counter - 1 ≡ resource_count c.args.instance.now
    = omega (arith, c.resources-resource-end.ensures.value, c.loop-resource.invariant.within) in
    c.in_ok-push.ensures.bytes ∙ rw (c.loop-resource.invariant.written, all) (simp append_assoc)
