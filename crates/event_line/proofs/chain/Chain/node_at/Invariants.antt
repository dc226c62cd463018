use Rattle.std.proofs.Common.{◌-◌, ◌≤◌, get_or}
use Rattle.event_line.specs.declared.chain.TheConstants.{FAR}
use Rattle.event_line.specs.Chain.{AreNeighbours}
use Rattle.event_line.proofs.chain.Chain.node_at.Given as goal

abbrev pub invariant-loop-node : goal.invariant-loop-node
invariant-loop-node l = (get_or l.self.periods l.node 0 ≤ l.period)
    × AreNeighbours l.self.periods l.node l.next

abbrev pub decreases-loop-node : goal.decreases-loop-node
decreases-loop-node l = FAR - get_or l.self.periods l.node 0
