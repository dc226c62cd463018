-- The priority rules (Kolisch 1996 compares them).
use Rattle.std.specs.Prelude.{ℕ, ◌+◌, ◌-◌, ◌^◌, List}
use Rattle.std.specs.List.{sum_by}
use Rattle.rc_instance.specs.Project.{Project, duration, successors_of}
use Rattle.activity_net.specs.Follows.{all_successors}
use Rattle.time_windows.specs.Windows.{latest_of}
use Rattle.priority_rules.specs.declared.rule.Rule.{Rule}
use Rattle.priority_rules.specs.declared.rule.Rule.TheVariants.{Number, Lft, Lst, Mts, Grpw}
use Rattle.priority_rules.specs.KeyList.{key_list, greatest_list, number_list}

-- the latest finish of an activity
abbrev pub latest_finish : Project → ℕ → ℕ
latest_finish project a = latest_of project a + duration project a

-- the duration of an activity and those of its direct successors
abbrev pub positional_weight : Project → ℕ → ℕ
positional_weight project a = duration project a + sum_by (duration project)
    (successors_of project a)

-- the list by a rule
abbrev pub rule_list : Project → Rule → List ℕ
rule_list project Number = number_list project
rule_list project Lft = key_list project (latest_finish project)
rule_list project Lst = key_list project (latest_of project)
rule_list project Mts = greatest_list project (all_successors project)
rule_list project Grpw = greatest_list project (positional_weight project)

-- a key by which greater values go first
abbrev pub turned : ℕ → ℕ
turned value = 2 ^ 32 - 1 - value

-- the key of an activity by which its rule's list is made
abbrev pub rule_key : Project → Rule → ℕ → ℕ
rule_key project Number a = a
rule_key project Lft a = latest_finish project a
rule_key project Lst a = latest_of project a
rule_key project Mts a = turned (all_successors project a)
rule_key project Grpw a = turned (positional_weight project a)
