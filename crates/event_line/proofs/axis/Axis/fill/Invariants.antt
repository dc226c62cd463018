use Rattle.std.proofs.Common.{◌≡◌, ℕ, ◌+◌, ◌<◌}
use Rattle.rc_instance.specs.Project.{resource_count, capacity}
use Rattle.event_line.specs.Rows.{left_at}
use Rattle.event_line.proofs.axis.Axis.fill.Given as goal

-- the rows of the first nodes are written
abbrev pub invariant-loop-node : goal.invariant-loop-node
invariant-loop-node l =
    (l.self.chain ≡ l.initial.self.chain) × (l.self.free.width ≡ l.initial.self.free.width)
    × ((i j : ℕ) → i < l.node → j < resource_count l.instance
    → left_at l.self.free.rows i j ≡ capacity l.instance (j + 1))
