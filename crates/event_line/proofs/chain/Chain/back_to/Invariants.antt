use Rattle.std.proofs.Common.{◌<◌, length, get_or}
use Rattle.event_line.proofs.chain.Chain.back_to.Given as goal

abbrev pub invariant-loop-node : goal.invariant-loop-node
invariant-loop-node l = l.node < length l.self.periods

abbrev pub decreases-loop-node : goal.decreases-loop-node
decreases-loop-node l = get_or l.self.periods l.node 0
