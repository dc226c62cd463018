use Rattle.std.proofs.Common.{◌≡◌, ◌-◌, map}
use Rattle.rc_instance.specs.Lists.{numbers}
use Rattle.rc_instance.specs.Project.{activity_count}
use Rattle.activity_net.specs.Tables.{lists_in}
use Rattle.activity_net.proofs.PredecessorLaws.{predecessors_up_to}
use Rattle.activity_net.proofs.predecessors.fill.Given as goal

abbrev pub invariant-loop-activity : goal.invariant-loop-activity
invariant-loop-activity l =
    lists_in l.lists ≡ map (predecessors_up_to l.instance (l.activity - 1))
    (numbers (activity_count l.instance))
