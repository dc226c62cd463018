use Rattle.std.proofs.Common.{◌≡◌, take}
use Rattle.rc_instance.specs.Project.{capacity}
use Rattle.time_windows.proofs.CapacityLaws.{top_among}
use Rattle.time_windows.proofs.capacity.top_capacity.Given as goal

abbrev pub invariant-loop-index : goal.invariant-loop-index
invariant-loop-index l =
    l.top
    ≡ top_among l.resource (capacity l.instance l.resource) (take l.index l.instance.changes)
