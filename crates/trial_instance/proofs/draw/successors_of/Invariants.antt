use Rattle.std.proofs.Common.{◌≡◌, ◌-◌}
use Rattle.std.specs.List.{filter, range_with_len}
use Rattle.trial_instance.specs.Trial.{was_drawn}
use Rattle.trial_instance.proofs.draw.successors_of.Given as goal

abbrev pub invariant-loop-later : goal.invariant-loop-later
invariant-loop-later l = l.list.items
    ≡ filter (was_drawn l.resources l.words l.activity) (range_with_len 2 (l.later - 2))
