use Rattle.std.proofs.Common.{ℕ, ◌+◌, ◌<◌, ◌≤◌}
use Rattle.rc_instance.specs.Project.{IsResource, demand, capacity_at}
use Rattle.rc_instance.specs.Usage.{usage}
use Rattle.event_line.proofs.tests.fits.Given as goal

abbrev pub invariant-loop-period : goal.invariant-loop-period
invariant-loop-period l = (p k : ℕ) → l.start ≤ p → p < l.period → IsResource l.line.project k
    → usage l.line.project l.line.bookings k p + demand l.line.project l.activity k
    ≤ capacity_at l.line.project k p
