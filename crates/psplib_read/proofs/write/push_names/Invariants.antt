use Rattle.std.proofs.Common.{◌≡◌, ◌+◌, ◌-◌, ◌≤◌, ◌++◌}
use Rattle.std.specs.List.{flat_map}
use Rattle.std.specs.String.{string_bytes}
use Rattle.rc_instance.specs.Lists.{numbers}
use Rattle.rc_instance.specs.Project.{resource_count}
use Rattle.psplib_read.specs.Written.{resource_name}
use Rattle.psplib_read.proofs.write.push_names.Given as goal

abbrev pub invariant-loop-resource : goal.invariant-loop-resource
invariant-loop-resource l = record {
  written : string_bytes l.text
      ≡ string_bytes l.initial.text ++ flat_map resource_name (numbers (l.resource-counter - 1));
  within : l.resource-counter ≤ resource_count l.instance + 1;
}
