use Rattle.std.proofs.Common.{subst}
use Rattle.rc_instance.specs.Order.{IsFeasibleList}
use Rattle.activity_net.specs.Network.{Network}
use Rattle.activity_net.proofs.CycleLaws.{feasible_list-no_cycle}
use Rattle.activity_net.proofs.net.Net.instance.Goals as goal

pub returns-clause-acyclic : goal.returns-clause-acyclic
returns-clause-acyclic c ring =
    let feasible = subst (λ (network : Network). IsFeasibleList network.project network.order)
    c.self.view_is c.self.invariant.feasible in
    feasible_list-no_cycle c.args.self.now.project c.args.self.now.order ring feasible
