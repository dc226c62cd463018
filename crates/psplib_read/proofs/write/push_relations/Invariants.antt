use Rattle.std.proofs.Common.{◌≡◌, ◌+◌, ◌-◌, ◌≤◌, ◌++◌, map}
use Rattle.std.specs.List.{flat_map}
use Rattle.std.specs.String.{string_bytes}
use Rattle.rc_instance.specs.Lists.{numbers}
use Rattle.rc_instance.specs.Project.{activity_count}
use Rattle.psplib_read.specs.Written.{ended, relation}
use Rattle.psplib_read.proofs.write.push_relations.Given as goal

abbrev pub invariant-loop-job : goal.invariant-loop-job
invariant-loop-job l = record {
  written : string_bytes l.text
      ≡ string_bytes l.initial.text ++ flat_map ended
      (map (relation l.instance) (numbers (l.job - 1)));
  within : l.job ≤ activity_count l.instance + 1;
}
