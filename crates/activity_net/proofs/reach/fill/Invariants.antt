use Rattle.std.proofs.Common.{ℕ, ◌+◌, ◌<◌, ◌≤◌, length, get_or}
use Rattle.activity_net.specs.Tables.{lists_in}
use Rattle.activity_net.specs.Follows.{HoldsFollowers, set_of}
use Rattle.activity_net.proofs.reach.fill.Given as goal

abbrev pub invariant-loop-after : goal.invariant-loop-after
invariant-loop-after l =
    (place : ℕ) → length l.order ≤ place + l.after → place < length l.order
    → HoldsFollowers l.instance (get_or l.order place 0)
    (set_of (lists_in l.sets) (get_or l.order place 0))
