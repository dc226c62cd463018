use Rattle.std.proofs.Common.{◌≡◌, ◌*◌, ◌^◌, ◌≤◌, take}
use Rattle.rc_instance.specs.Usage.{usage}
use Rattle.event_line.proofs.tests.used.Given as goal

-- what the first bookings use
abbrev pub invariant-loop-index : goal.invariant-loop-index
invariant-loop-index l =
    (l.used ≡ usage l.line.project (take l.index l.line.bookings) l.resource l.period)
    × (l.used ≤ l.index * 2 ^ 32)
