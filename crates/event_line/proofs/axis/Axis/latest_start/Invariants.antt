use Rattle.std.proofs.Common.{ℕ, ◌+◌, ◌-◌, ◌≤◌}
use Rattle.event_line.specs.Chain.{StandsFor}
use Rattle.event_line.specs.Rows.{HasRoomFor}
use Rattle.event_line.proofs.axis.Axis.latest_start.Given as goal

-- no end up to the given one that has room comes after the end
abbrev pub invariant-loop-first : goal.invariant-loop-first
invariant-loop-first l = StandsFor l.self.chain.periods l.last (l.end - 1) × (l.end ≤ l.by)
    × ((t : ℕ) → t + l.duration ≤ l.by
    → HasRoomFor l.self.chain.periods l.self.free.rows l.demands t l.duration
    → t + l.duration ≤ l.end)

abbrev pub decreases-loop-first : goal.decreases-loop-first
decreases-loop-first l = l.end
