use Rattle.std.proofs.Common.{◌≡◌, ◌-◌, ◌∷◌, map}
use Rattle.std.specs.List.{range_with_len}
use Rattle.trial_instance.specs.Trial.{trial_duration}
use Rattle.trial_instance.proofs.draw.durations.Given as goal

abbrev pub invariant-loop-activity : goal.invariant-loop-activity
invariant-loop-activity l = l.durations.items
    ≡ 0 ∷ map (trial_duration l.resources l.words) (range_with_len 2 (l.activity - 2))
