use Rattle.std.proofs.Common.{◌≡◌, ◌≤◌, length}
use Rattle.rc_instance.specs.Project.{activity_count}
use Rattle.rc_instance.specs.Schedule.{IsFeasible, makespan}
use Rattle.fwd_back.specs.Improved.{improved}
use Rattle.fwd_back.specs.Passes.{IsReady}
use Rattle.fwd_back.proofs.rounds.improve.Given as goal

abbrev pub invariant-rounds : goal.invariant-rounds
invariant-rounds l = record {
  ready : IsReady l.passes;
  network : l.passes.list.network ≡ l.net;
  feasible : IsFeasible l.net.project l.present;
  shorter : makespan l.net.project l.present ≤ makespan l.net.project l.from;
  count : length l.next ≡ activity_count l.net.project;
  same : improved l.net.project l.from ≡ improved l.net.project l.present;
}

abbrev pub decreases-rounds : goal.decreases-rounds
decreases-rounds l = makespan l.net.project l.present
