use Rattle.std.proofs.Common.{◌≡◌, ◌-◌, length}
use Rattle.swap_descent.specs.Descent.{descent}
use Rattle.swap_descent.specs.Placed.{IsPlaced}
use Rattle.swap_descent.proofs.rounds.repeat.Given as goal

abbrev pub invariant-loop-done : goal.invariant-loop-done
invariant-loop-done l = record {
  network : l.list.network ≡ l.fn.list.network;
  placed : IsPlaced l.list (length l.list.order) l.line l.starts;
  same : descent l.list.network.project (l.rounds - l.done) l.list.order
      ≡ descent l.fn.list.network.project l.rounds l.fn.list.order;
}
