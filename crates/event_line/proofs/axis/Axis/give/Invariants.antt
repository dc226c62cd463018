use Rattle.std.proofs.Common.{◌≡◌, ◌-◌, ◌<◌, ◌≤◌, length, get_or}
use Rattle.event_line.specs.Rows.{IsTaken}
use Rattle.event_line.proofs.axis.Axis.give.Given as goal

-- given back at each node from the first one up to this one
abbrev pub invariant-loop-self : goal.invariant-loop-self
invariant-loop-self l =
    let periods = l.self.chain.periods in
    (l.self.chain ≡ l.initial.self.chain) × (l.self.free.width ≡ l.initial.self.free.width)
    × (l.node < length periods)
    × (get_or periods l.first 0 ≤ get_or periods l.node 0)
    × (get_or periods l.node 0 ≤ get_or periods l.end 0)
    × IsTaken periods l.self.free.rows l.initial.self.free.rows l.demands (get_or periods l.first 0) (get_or periods l.node 0)

abbrev pub decreases-loop-self : goal.decreases-loop-self
decreases-loop-self l =
    get_or l.self.chain.periods l.end 0 - get_or l.self.chain.periods l.node 0
