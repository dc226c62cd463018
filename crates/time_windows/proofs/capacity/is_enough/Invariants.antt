use Rattle.std.proofs.Common.{ℕ, ◌<◌, ◌≤◌}
use Rattle.rc_instance.specs.Project.{IsActivity, duration, demand}
use Rattle.time_windows.proofs.capacity.is_enough.Given as goal

abbrev pub invariant-loop-activity : goal.invariant-loop-activity
invariant-loop-activity l =
    (a : ℕ) → a < l.activity → IsActivity l.instance a → 0 < duration l.instance a
    → demand l.instance a l.resource ≤ l.capacity
