use Rattle.std.proofs.Common.{◌≡◌, ◌≤◌, length, take}
use Rattle.event_line.proofs.axis.Axis.cut.Given as goal

-- the first nodes, as many as are left
abbrev pub invariant-loop-self : goal.invariant-loop-self
invariant-loop-self l =
    let old = l.initial.self.chain.periods in
    (l.nodes ≤ length l.self.chain.periods)
    × (l.self.chain.periods ≡ take (length l.self.chain.periods) old)
    × (length l.self.chain.periods ≤ length old)
    × (l.self.chain.room ≡ l.initial.self.chain.room)
    × (l.self.free ≡ l.initial.self.free)

abbrev pub decreases-loop-self : goal.decreases-loop-self
decreases-loop-self l = length l.self.chain.periods
