use Rattle.swap_descent.specs.Placed.{IsPlaced}
use Rattle.swap_descent.proofs.placing.finish.Given as goal

abbrev pub invariant-loop-position : goal.invariant-loop-position
invariant-loop-position l = IsPlaced l.list l.position l.line l.starts
