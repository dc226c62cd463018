use Rattle.std.proofs.Common.{◌≡◌, ℕ, ◌-◌, ◌<◌, ◌≤◌, ◌^◌, ◌++◌, map}
use Rattle.rc_instance.specs.Lists.{numbers}
use Rattle.rc_instance.specs.Project.{demand}
use Rattle.patterson_read.proofs.write.push_demands.Given as goal

abbrev pub invariant-loop-resource : goal.invariant-loop-resource
invariant-loop-resource l = record {
  written : l.numbers.items
      ≡ l.initial.numbers.items ++ map (demand l.instance l.activity) (numbers (l.resource - 1));
  small : (k : ℕ) → 1 ≤ k → k < l.resource → demand l.instance l.activity k < 2 ^ 32;
}
