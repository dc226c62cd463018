use Rattle.std.proofs.Common.{◌≡◌, ◌-◌, ◌++◌, replicate}
use Rattle.std.specs.List.{flat_map, range_with_len}
use Rattle.trial_instance.specs.Trial.{trial_demands}
use Rattle.trial_instance.proofs.draw.demands.Given as goal

abbrev pub invariant-loop-activity : goal.invariant-loop-activity
invariant-loop-activity l = l.demands.items ≡ replicate l.resources 0
    ++ flat_map (trial_demands l.resources l.words) (range_with_len 2 (l.activity - 2))
