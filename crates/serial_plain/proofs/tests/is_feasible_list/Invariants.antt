use Rattle.std.proofs.Common.{ℕ, ◌<◌, take, get_or}
use Rattle.std.specs.List.{Contains}
use Rattle.rc_instance.specs.Project.{IsActivity, Precedes}
use Rattle.serial_plain.proofs.tests.is_feasible_list.Given as goal

abbrev pub invariant-loop-place : goal.invariant-loop-place
invariant-loop-place l = (place : ℕ) → place < l.place
    → IsActivity l.instance (get_or l.order place 0)
    × (Contains (take place l.order) (get_or l.order place 0) → ⊥)
    × ((a : ℕ) → IsActivity l.instance a → Precedes l.instance a (get_or l.order place 0)
    → Contains (take place l.order) a)
