use Rattle.std.proofs.Common.{take}
use Rattle.activity_net.specs.Tables.{lists_in, IsListedUnder}
use Rattle.activity_net.proofs.predecessors.list_under.Given as goal

abbrev pub invariant-loop-b : goal.invariant-loop-b
invariant-loop-b l =
    IsListedUnder l.activity (take l.b-index l.successors)
    (lists_in l.initial.lists) (lists_in l.lists)
