-- How the fields of a `Net` are seen as a network.
use Rattle.std.specs.Prelude.{◌≡◌}
use Rattle.rc_instance.specs.Calendar.{IsWithinLimits}
use Rattle.rc_instance.specs.Order.{IsFeasibleList}
use Rattle.activity_net.specs.declared.net.Net.TheInside.{Inside}
use Rattle.activity_net.specs.Tables.{lists_in}
use Rattle.activity_net.specs.Follows.{HoldFollowers}
use Rattle.activity_net.specs.Network.{Network, predecessor_table}

-- the project and the order that the fields hold
abbrev pub network_of : Inside → Network
network_of inside = record { project = inside.instance; order = inside.order.items }

-- what the fields of every net keep
pub record KeepsTables (inside : Inside) : Type 0 where
  pub limits : IsWithinLimits inside.instance
  pub feasible : IsFeasibleList inside.instance inside.order.items
  pub predecessors : lists_in inside.predecessors.items ≡ predecessor_table inside.instance
  pub followers : HoldFollowers inside.instance (lists_in inside.followers.items)
