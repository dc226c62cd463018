use Rattle.std.proofs.Common.{◌-◌, get_or}
use Rattle.event_line.specs.declared.chain.TheConstants.{FAR}
use Rattle.event_line.proofs.SearchLaws.{IsSearched}
use Rattle.event_line.proofs.axis.Axis.least_start.Given as goal

abbrev pub invariant-loop-start : goal.invariant-loop-start
invariant-loop-start l =
    IsSearched l.self.chain.periods l.self.free.rows l.demands l.duration l.from l.start l.first
    l.node

abbrev pub decreases-loop-start : goal.decreases-loop-start
decreases-loop-start l = FAR - get_or l.self.chain.periods l.node 0
