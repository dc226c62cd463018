use Rattle.std.proofs.Common.{◌≡◌, ℕ, ◌+◌, ◌-◌, ◌<◌, ◌≤◌, ◌^◌, ◌++◌, map}
use Rattle.std.specs.List.{flat_map}
use Rattle.std.specs.String.{string_bytes}
use Rattle.rc_instance.specs.Lists.{numbers}
use Rattle.rc_instance.specs.Project.{demand, resource_count}
use Rattle.psplib_read.specs.Written.{column}
use Rattle.psplib_read.proofs.write.push_demands.Given as goal

abbrev pub invariant-loop-resource : goal.invariant-loop-resource
invariant-loop-resource l = record {
  written : string_bytes l.text
      ≡ string_bytes l.initial.text ++ flat_map (column 7)
      (map (demand l.instance l.job) (numbers (l.resource - 1)));
  within : l.resource ≤ resource_count l.instance + 1;
  small : (k : ℕ) → 1 ≤ k → k < l.resource → demand l.instance l.job k < 2 ^ 32;
}
