use Rattle.std.proofs.Common.{◌≡◌, ◌≢◌, ℕ, ◌+◌, ◌<◌, length}
use Rattle.rc_instance.specs.Project.{capacity}
use Rattle.event_line.specs.Rows.{row_at, left_at}
use Rattle.event_line.proofs.rows.Rows.fill.Given as goal

-- the first resources are written into the row, and nothing into another one
abbrev pub invariant-loop-resource : goal.invariant-loop-resource
invariant-loop-resource l =
    (l.self.width ≡ l.initial.self.width) × (length l.self.rows ≡ length l.initial.self.rows)
    × ((j : ℕ) → j < l.resource → left_at l.self.rows l.node j ≡ capacity l.instance (j + 1))
    × ((x : ℕ) → x ≢ l.node → row_at l.self.rows x ≡ row_at l.initial.self.rows x)
