use Rattle.std.proofs.Common.{◌≡◌, [], replicate}
use Rattle.activity_net.specs.Tables.{lists_in}
use Rattle.activity_net.proofs.predecessors.empty_lists.Given as goal

abbrev pub invariant-loop : goal.invariant-loop
invariant-loop l = lists_in l.lists.items ≡ replicate l.counter []
