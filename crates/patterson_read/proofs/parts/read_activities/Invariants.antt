use Rattle.std.proofs.Common.{List}
use Rattle.patterson_read.specs.Rcp.{Activity}
use Rattle.patterson_read.proofs.Activities.{HasRead}
use Rattle.patterson_read.proofs.parts.read_activities.Given as goal

abbrev pub invariant-loop-index : goal.invariant-loop-index
invariant-loop-index l =
    (found : List Activity)
    × HasRead l.fn.cursor l.head l.fn.capacities.items l.parts l.cursor l.index l.sum found
