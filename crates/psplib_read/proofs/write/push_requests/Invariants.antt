use Rattle.std.proofs.Common.{◌≡◌, ℕ, ◌+◌, ◌-◌, ◌<◌, ◌≤◌, ◌++◌, map}
use Rattle.std.specs.List.{flat_map}
use Rattle.std.specs.String.{string_bytes}
use Rattle.rc_instance.specs.Lists.{numbers}
use Rattle.rc_instance.specs.Project.{activity_count}
use Rattle.rc_edge.specs.Written.{HasSmallDemandsAt}
use Rattle.psplib_read.specs.Written.{ended, request}
use Rattle.psplib_read.proofs.write.push_requests.Given as goal

abbrev pub invariant-loop-job : goal.invariant-loop-job
invariant-loop-job l = record {
  written : string_bytes l.text
      ≡ string_bytes l.initial.text ++ flat_map ended
      (map (request l.instance) (numbers (l.job - 1)));
  within : l.job ≤ activity_count l.instance + 1;
  small : (a : ℕ) → 1 ≤ a → a < l.job → HasSmallDemandsAt l.instance a;
}
