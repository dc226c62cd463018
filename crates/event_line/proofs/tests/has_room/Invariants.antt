use Rattle.std.proofs.Common.{ℕ, ◌+◌, ◌<◌, ◌≤◌}
use Rattle.rc_instance.specs.Project.{demand, capacity_at}
use Rattle.rc_instance.specs.Usage.{usage}
use Rattle.event_line.proofs.tests.has_room.Given as goal

abbrev pub invariant-loop-resource : goal.invariant-loop-resource
invariant-loop-resource l = (k : ℕ) → 1 ≤ k → k < l.resource
    → usage l.line.project l.line.bookings k l.period + demand l.line.project l.activity k
    ≤ capacity_at l.line.project k l.period
