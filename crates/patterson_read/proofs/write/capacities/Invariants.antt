use Rattle.std.proofs.Common.{◌≡◌, ◌-◌, take}
use Rattle.patterson_read.proofs.write.capacities.Given as goal

abbrev pub invariant-loop-resource : goal.invariant-loop-resource
invariant-loop-resource l = l.numbers.items ≡ take (l.resource - 1) l.instance.capacities
