use Rattle.std.proofs.Common.{◌≡◌, ◌+◌, take}
use Rattle.std.specs.List.{sum_by}
use Rattle.rc_instance.specs.Project.{duration}
use Rattle.priority_rules.proofs.rule_list.weight_of.Given as goal

abbrev pub invariant-loop-successor : goal.invariant-loop-successor
invariant-loop-successor l =
    l.weight ≡ duration l.instance l.fn.activity + sum_by (duration l.instance)
    (take l.successor-index l.successor-items)
