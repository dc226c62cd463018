use Rattle.std.proofs.Common.{◌≡◌, ◌+◌, drop}
use Rattle.rc_instance.specs.Parts.{large_capacity}
use Rattle.rc_instance.proofs.build.large_capacity.Given as goal

abbrev pub invariant-loop-i : goal.invariant-loop-i
invariant-loop-i l = large_capacity (l.i + 1) (drop l.i l.capacities) ≡ large_capacity 1 l.capacities
