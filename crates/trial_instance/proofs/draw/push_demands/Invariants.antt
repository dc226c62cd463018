use Rattle.std.proofs.Common.{◌≡◌, ◌+◌, ◌-◌, ◌%◌, ◌++◌, map, slice_index}
use Rattle.std.specs.List.{range_with_len}
use Rattle.trial_instance.specs.Trial.{first_word}
use Rattle.trial_instance.proofs.draw.push_demands.Given as goal

abbrev pub invariant-loop-resource : goal.invariant-loop-resource
invariant-loop-resource l = l.demands.items ≡ l.initial.demands.items
    ++ map (λ k. slice_index l.words (first_word l.resources l.activity + k) % 11)
    (range_with_len 1 (l.resource - 1))
