use Rattle.std.proofs.Common.{◌≡◌, ◌+◌, ◌-◌, map, take, slice_index}
use Rattle.rc_instance.specs.Lists.{greatest}
use Rattle.rc_instance.specs.Project.{duration}
use Rattle.time_windows.proofs.longest.latest_finish.Given as goal

abbrev pub invariant-loop-before : goal.invariant-loop-before
invariant-loop-before l =
    l.latest
    ≡ greatest (map (λ p. slice_index l.starts (p - 1) + duration l.net.project p)
    (take l.before-index l.before-items))
