use Rattle.std.proofs.Common.{◌≡◌, ◌-◌}
use Rattle.rc_instance.specs.Lists.{numbers}
use Rattle.priority_rules.proofs.key_list.numbers_up_to.Given as goal

abbrev pub invariant-loop-number : goal.invariant-loop-number
invariant-loop-number l = l.list.items ≡ numbers (l.number - 1)
