use Rattle.std.proofs.Common.{◌≡◌, drop}
use Rattle.rc_instance.specs.Parts.{wild_successor_of}
use Rattle.rc_instance.proofs.build.wild_successor_of.Given as goal

abbrev pub invariant-loop-b : goal.invariant-loop-b
invariant-loop-b l =
    wild_successor_of l.count l.activity (drop l.b-index l.successors) ≡ wild_successor_of l.count l.activity l.successors
