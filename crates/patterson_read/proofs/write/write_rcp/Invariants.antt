use Rattle.std.proofs.Common.{◌≡◌, ℕ, ◌+◌, ◌<◌, ◌≤◌}
use Rattle.std.specs.String.{string_bytes}
use Rattle.rc_instance.specs.Project.{activity_count}
use Rattle.rc_edge.specs.Written.{HasSmallDemandsAt}
use Rattle.patterson_read.proofs.WriteLaws.{lines_before}
use Rattle.patterson_read.proofs.write.write_rcp.Given as goal

abbrev pub invariant-loop-activity : goal.invariant-loop-activity
invariant-loop-activity l = record {
  written : string_bytes l.text ≡ lines_before l.instance l.activity;
  within : l.activity ≤ activity_count l.instance + 1;
  small : (a : ℕ) → 1 ≤ a → a < l.activity → HasSmallDemandsAt l.instance a;
}
