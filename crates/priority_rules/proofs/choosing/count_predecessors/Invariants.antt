use Rattle.priority_rules.proofs.CountingLaws.{IsCounted}
use Rattle.priority_rules.proofs.choosing.count_predecessors.Given as goal

abbrev pub invariant-loop-activity : goal.invariant-loop-activity
invariant-loop-activity l = IsCounted l.net.project l.keys l.waiting l.pile l.activity l.free
