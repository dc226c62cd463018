use Rattle.std.proofs.Common.{◌≡◌, ◌+◌, ◌-◌, ◌≤◌}
use Rattle.rc_instance.specs.Project.{horizon}
use Rattle.parallel_scheme.specs.Parallel.{booked_before}
use Rattle.parallel_scheme.specs.Passing.{IsTold}
use Rattle.parallel_scheme.proofs.scheme.booked.Given as goal

abbrev pub invariant-loop-time : goal.invariant-loop-time
invariant-loop-time l = record {
  project : l.line.project ≡ l.list.network.project;
  booked : l.line.bookings ≡ booked_before l.list.network.project l.list.order l.time;
  time : l.time ≤ horizon l.list.network.project + 1;
  told : IsTold l.list.network.project l.time l.line.bookings l.progress;
}

abbrev pub decreases-loop-time : goal.decreases-loop-time
decreases-loop-time l = horizon l.list.network.project + 1 - l.time
