use Rattle.std.proofs.Common.{◌≡◌, ℕ, ◌+◌, ◌-◌, ◌<◌, ◌≤◌, [], get_or, vec_len}
use Rattle.std.specs.Prelude.{vec_capacity}
use Rattle.rc_instance.specs.Project.{activity_count}
use Rattle.event_line.specs.Shown.{PacksDemands}
use Rattle.event_line.proofs.demands.pack_all.Given as goal

-- the demands of the first activities are packed
abbrev pub invariant-loop-activity : goal.invariant-loop-activity
invariant-loop-activity l =
    (vec_len l.demands + 1 ≡ l.activity)
    × (activity_count l.instance ≤ vec_capacity l.demands)
    × ((a : ℕ) → 1 ≤ a → a < l.activity
    → PacksDemands l.instance a (get_or l.demands.items (a - 1) []))
