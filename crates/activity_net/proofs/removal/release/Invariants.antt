use Rattle.std.proofs.Common.{take}
use Rattle.activity_net.specs.Tables.{IsReleased}
use Rattle.activity_net.proofs.removal.release.Given as goal

abbrev pub invariant-loop-b : goal.invariant-loop-b
invariant-loop-b l = IsReleased (take l.b-index l.successors) l.initial.waiting l.waiting
