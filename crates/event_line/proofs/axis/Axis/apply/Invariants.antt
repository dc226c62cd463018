use Rattle.std.proofs.Common.{◌≡◌}
use Rattle.event_line.proofs.CalendarLaws.{IsWritten}
use Rattle.event_line.proofs.axis.Axis.apply.Given as goal

-- the change is written into the rows of the first nodes
abbrev pub invariant-loop-node : goal.invariant-loop-node
invariant-loop-node l =
    (l.self.chain ≡ l.initial.self.chain) × (l.self.free.width ≡ l.initial.self.free.width)
    × IsWritten l.self.chain.periods l.initial.self.free.rows l.self.free.rows l.self.free.width
    l.change.resource l.change.period l.change.capacity l.node
