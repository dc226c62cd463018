use Rattle.std.proofs.Common.{◌≡◌, ◌-◌, map}
use Rattle.rc_instance.specs.Lists.{numbers}
use Rattle.priority_rules.specs.Rules.{rule_key}
use Rattle.priority_rules.proofs.rule_list.keys_of.Given as goal

abbrev pub invariant-loop-activity : goal.invariant-loop-activity
invariant-loop-activity l =
    l.keys.items ≡ map (rule_key l.windows.project l.rule) (numbers (l.activity - 1))
