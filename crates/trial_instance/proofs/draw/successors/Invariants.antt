use Rattle.std.proofs.Common.{◌≡◌, ◌-◌, map}
use Rattle.std.specs.List.{range_with_len}
use Rattle.trial_instance.specs.Trial.{trial_successors}
use Rattle.trial_instance.proofs.draw.successors.Given as goal

abbrev pub invariant-loop-activity : goal.invariant-loop-activity
invariant-loop-activity l = map (λ list. list.items) l.lists.items
    ≡ map (trial_successors l.activities l.resources l.words) (range_with_len 1 (l.activity - 1))
