use Rattle.std.proofs.Common.{take}
use Rattle.priority_rules.proofs.ReleaseLaws.{IsReleasing}
use Rattle.priority_rules.proofs.choosing.release.Given as goal

abbrev pub invariant-loop-b : goal.invariant-loop-b
invariant-loop-b l =
    IsReleasing (take l.b-index l.successors) l.keys l.initial.waiting l.waiting l.initial.pile
    l.pile l.fn.free l.free
