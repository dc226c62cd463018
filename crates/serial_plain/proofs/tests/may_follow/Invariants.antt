use Rattle.std.proofs.Common.{ℕ, ◌<◌, ◌≤◌}
use Rattle.std.specs.List.{Contains}
use Rattle.rc_instance.specs.Project.{Precedes}
use Rattle.serial_plain.proofs.tests.may_follow.Given as goal

abbrev pub invariant-loop-a : goal.invariant-loop-a
invariant-loop-a l =
    (b : ℕ) → 1 ≤ b → b < l.a → Precedes l.instance b l.activity → Contains l.before b
