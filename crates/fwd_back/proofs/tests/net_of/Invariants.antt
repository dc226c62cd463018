use Rattle.std.proofs.Common.{◌≡◌, length}
use Rattle.fwd_back.proofs.tests.net_of.Given as goal

abbrev pub invariant-loop-list : goal.invariant-loop-list
invariant-loop-list l = length l.successors.items ≡ l.list-index
