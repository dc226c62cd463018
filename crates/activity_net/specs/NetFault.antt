-- What the fault of a net tells.
use Rattle.std.specs.Prelude.{◌≡◌, Some}
use Rattle.rc_instance.specs.Project.{Project}
use Rattle.rc_instance.specs.Order.{IsCycle}
use Rattle.activity_net.specs.declared.fault.NetFault.{NetFault}
use Rattle.activity_net.specs.declared.fault.NetFault.TheVariants.{Cycle, Memory}
use Rattle.activity_net.specs.Ring.{shown_cycle}

-- the ring is a cycle, and it is the one that is shown, unless memory ran out
abbrev pub IsNetFault : Project → NetFault → Type 0
IsNetFault project (Cycle ring) = IsCycle project ring × (shown_cycle project ≡ Some ring)
IsNetFault project Memory = Unit {0}
