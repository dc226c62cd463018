use Rattle.std.proofs.Common.{◌≡◌, ◌-◌, ◌<◌, ◌≤◌, length, get_or}
use Rattle.event_line.specs.Rows.{IsTaken}
use Rattle.event_line.proofs.axis.Axis.take.Given as goal

-- taken at each node from the first one up to this one
abbrev pub invariant-loop-node : goal.invariant-loop-node
invariant-loop-node l =
    let periods = l.self.chain.periods in
    (l.self.chain ≡ l.initial.self.chain) × (l.self.free.width ≡ l.initial.self.free.width)
    × (l.node < length periods)
    × (get_or periods l.first 0 ≤ get_or periods l.node 0)
    × (get_or periods l.node 0 ≤ get_or periods l.end 0)
    × IsTaken periods l.initial.self.free.rows l.self.free.rows l.demands (get_or periods l.first 0) (get_or periods l.node 0)

abbrev pub decreases-loop-node : goal.decreases-loop-node
decreases-loop-node l =
    get_or l.self.chain.periods l.end 0 - get_or l.self.chain.periods l.node 0
