use Rattle.std.proofs.Common.{◌≡◌, ◌-◌}
use Rattle.std.specs.List.{count_by}
use Rattle.rc_instance.specs.Lists.{names, numbers}
use Rattle.activity_net.specs.Follows.{followers}
use Rattle.activity_net.proofs.net.Net.all_successors.Given as goal

abbrev pub invariant-loop-later : goal.invariant-loop-later
invariant-loop-later l = l.count ≡ count_by (names (followers l.self.project l.activity))
    (numbers (l.later - 1))
