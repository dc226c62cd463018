use Rattle.std.proofs.Common.{◌≡◌}
use Rattle.swap_descent.proofs.RoundLaws.{IsAt}
use Rattle.swap_descent.proofs.rounds.round.Given as goal

abbrev pub invariant-loop-position : goal.invariant-loop-position
invariant-loop-position l = record {
  same : l.list ≡ l.fn.list;
  at : IsAt l.windows l.list l.count l.position l.limit l.line l.starts;
}
