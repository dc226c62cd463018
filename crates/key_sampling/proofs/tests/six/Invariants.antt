use Rattle.std.proofs.Common.{◌≡◌, length}
use Rattle.key_sampling.proofs.tests.six.Given as goal

abbrev pub invariant-loop-list : goal.invariant-loop-list
invariant-loop-list l = length l.lists.items ≡ l.list-index
