-- What the fields of `Windows` keep.
use Rattle.std.specs.Prelude.{◌≡◌, ℕ, List, map}
use Rattle.rc_instance.specs.Lists.{numbers}
use Rattle.rc_instance.specs.Project.{activity_count}
use Rattle.rc_instance.specs.Calendar.{IsWithinLimits}
use Rattle.rc_instance.specs.Order.{IsFeasibleList}
use Rattle.activity_net.specs.Network.{Network}
use Rattle.time_windows.specs.declared.windows.Windows.TheInside.{Inside}
use Rattle.time_windows.specs.CapacityBound.{capacity_bound_of}
use Rattle.time_windows.specs.Windows.{earliest_of, tail_of, critical_of}

-- tables of the times of the activities by number, of a network within all limits
pub record AreWindows (network : Network) (starts tails : List ℕ) (critical bound : ℕ)
    : Type 0 where
  pub limits : IsWithinLimits network.project
  pub order : IsFeasibleList network.project network.order
  pub earliest : starts
      ≡ map (earliest_of network.project) (numbers (activity_count network.project))
  pub tail : tails ≡ map (tail_of network.project) (numbers (activity_count network.project))
  pub longest : critical ≡ critical_of network.project
  pub work : bound ≡ capacity_bound_of network.project

-- the fields are windows of the net
abbrev pub KeepsWindows : Inside → Type 0
KeepsWindows inside =
    AreWindows inside.net.now inside.earliest.items inside.tails.items inside.critical
    inside.capacity_bound
