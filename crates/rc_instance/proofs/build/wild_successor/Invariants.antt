use Rattle.std.proofs.Common.{◌≡◌, ◌+◌, drop, map}
use Rattle.rc_instance.specs.Parts.{wild_successor}
use Rattle.rc_instance.proofs.build.wild_successor.Given as goal

abbrev pub invariant-loop-i : goal.invariant-loop-i
invariant-loop-i l =
    wild_successor l.count (l.i + 1) (map (λ list. list.items) (drop l.i l.successors))
    ≡ wild_successor l.count 1 (map (λ list. list.items) l.successors)
