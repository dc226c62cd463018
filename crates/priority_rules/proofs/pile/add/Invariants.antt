use Rattle.priority_rules.proofs.PileLaws.{IsSought}
use Rattle.priority_rules.proofs.pile.add.Given as goal

abbrev pub invariant-loop-place : goal.invariant-loop-place
invariant-loop-place l = IsSought l.keys l.initial.pile l.pile l.count l.number l.place

abbrev pub decreases-loop-place : goal.decreases-loop-place
decreases-loop-place l = l.place
