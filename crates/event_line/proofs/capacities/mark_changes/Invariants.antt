use Rattle.std.proofs.Common.{◌≡◌, ◌+◌, ◌<◌, ◌≤◌, length, take}
use Rattle.std.specs.List.{All}
use Rattle.rc_instance.specs.declared.change.Change.{Change}
use Rattle.event_line.specs.Shown.{HasNode}
use Rattle.event_line.proofs.capacities.mark_changes.Given as goal

-- nodes at the first changes
abbrev pub invariant-loop-index : goal.invariant-loop-index
invariant-loop-index l =
    (length l.chain.periods ≤ length l.initial.chain.periods + l.index) × (l.chain.room ≡ l.initial.chain.room)
    × (l.node < length l.chain.periods)
    × All (λ (change : Change). HasNode l.chain.periods (length l.chain.periods) change.period)
    (take l.index l.instance.changes)
