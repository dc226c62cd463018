use Rattle.swap_descent.specs.Placed.{IsPlaced, IsBelow}
use Rattle.swap_descent.proofs.trial.attempt.Given as goal

abbrev pub invariant-loop-position : goal.invariant-loop-position
invariant-loop-position l = record {
  placed : IsPlaced l.list l.position l.line l.starts;
  below : IsBelow l.list.network.project l.list.order l.position l.limit;
}
