use Rattle.std.proofs.Common.{◌≡◌, ℕ, ◌+◌, ◌<◌, length, take, get_or}
use Rattle.rc_instance.specs.Project.{resource_count}
use Rattle.event_line.specs.Rows.{left_at}
use Rattle.event_line.proofs.CalendarLaws.{capacity_after}
use Rattle.event_line.proofs.axis.Axis.apply_all.Given as goal

-- the rows have the capacities after the first changes
abbrev pub invariant-loop-index : goal.invariant-loop-index
invariant-loop-index l =
    (l.self.chain ≡ l.initial.self.chain) × (l.self.free.width ≡ l.initial.self.free.width)
    × ((i j : ℕ) → i < length l.self.chain.periods → j < resource_count l.instance
    → left_at l.self.free.rows i j
    ≡ capacity_after l.instance (j + 1) (get_or l.self.chain.periods i 0)
    (take l.index l.instance.changes))
