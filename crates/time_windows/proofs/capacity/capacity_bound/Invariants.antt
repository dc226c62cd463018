use Rattle.std.proofs.Common.{◌≡◌, ◌-◌, map}
use Rattle.rc_instance.specs.Lists.{greatest, numbers}
use Rattle.time_windows.specs.CapacityBound.{bound_by}
use Rattle.time_windows.proofs.capacity.capacity_bound.Given as goal

abbrev pub invariant-loop-resource : goal.invariant-loop-resource
invariant-loop-resource l =
    l.bound ≡ greatest (map (bound_by l.instance) (numbers (l.resource - 1)))
