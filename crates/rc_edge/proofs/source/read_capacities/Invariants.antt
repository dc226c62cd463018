use Rattle.std.proofs.Common.{◌≡◌, ◌-◌, [], length}
use Rattle.rc_edge.specs.Grammar.{more}
use Rattle.rc_edge.specs.Source.{next_capacity}
use Rattle.rc_edge.proofs.source.read_capacities.Given as goal

abbrev pub invariant-loop-index : goal.invariant-loop-index
invariant-loop-index g l =
    let one = next_capacity g.S.NumberSource.due in
    (length l.capacities.items ≡ l.index)
    × (more one (l.resources - l.index) l.capacities.items l.source ≡ more one l.resources [] l.fn.source)
