use Rattle.std.proofs.Common.{ℕ, ◌<◌, ◌≤◌, length, get_or}
use Rattle.event_line.specs.Rows.{HasRoom}
use Rattle.event_line.proofs.axis.Axis.room_down_to.Given as goal

-- each node from this one up to the last one has room, and the start comes after none of them
abbrev pub invariant-loop-last : goal.invariant-loop-last
invariant-loop-last l =
    let periods = l.self.chain.periods in
    (l.node < length periods)
    × (get_or periods l.node 0 ≤ get_or periods l.last 0)
    × ((i : ℕ) → i < length periods → get_or periods i 0 ≤ l.start
    → get_or periods i 0 ≤ get_or periods l.node 0)
    × ((i : ℕ) → i < length periods → get_or periods l.node 0 < get_or periods i 0
    → get_or periods i 0 ≤ get_or periods l.last 0 → HasRoom l.self.free.rows l.demands i)

abbrev pub decreases-loop-last : goal.decreases-loop-last
decreases-loop-last l = get_or l.self.chain.periods l.node 0
