use Rattle.std.proofs.Common.{◌≡◌}
use Rattle.parallel_scheme.specs.Passing.{IsTold}
use Rattle.parallel_scheme.proofs.PassLaws.{IsPassing}
use Rattle.parallel_scheme.proofs.scheme.pass.Given as goal

abbrev pub invariant-loop-activity : goal.invariant-loop-activity
invariant-loop-activity l = record {
  project : l.line.project ≡ l.list.network.project;
  passing : IsPassing l.list.network.project l.list.order l.time l.initial.line.bookings
      l.line.bookings l.activity-index l.next;
  told : IsTold l.list.network.project l.time l.line.bookings l.progress;
}
