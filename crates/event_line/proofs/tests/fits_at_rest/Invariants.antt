use Rattle.std.proofs.Common.{ℕ, ◌<◌, ◌≤◌}
use Rattle.rc_instance.specs.Project.{demand, last_capacity}
use Rattle.event_line.proofs.tests.fits_at_rest.Given as goal

abbrev pub invariant-loop-resource : goal.invariant-loop-resource
invariant-loop-resource l = (k : ℕ) → 1 ≤ k → k < l.resource
    → demand l.line.project l.activity k ≤ last_capacity l.line.project k
