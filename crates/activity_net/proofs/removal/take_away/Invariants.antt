use Rattle.std.proofs.Common.{◌-◌, length}
use Rattle.rc_instance.specs.Project.{activity_count}
use Rattle.activity_net.proofs.RemovalLaws.{IsReached, IsSearched}
use Rattle.activity_net.proofs.removal.take_away.Given as goal

abbrev pub invariant-loop-activity : goal.invariant-loop-activity
invariant-loop-activity l =
    IsReached l.instance l.order.items l.removed.items l.waiting.items
    × IsSearched l.waiting.items l.removed.items l.from

abbrev pub decreases-loop-activity : goal.decreases-loop-activity
decreases-loop-activity l = activity_count l.instance - length l.order.items
