use Rattle.std.proofs.Common.{◌≡◌, ◌-◌, ℕ, List, []}
use Rattle.rc_edge.specs.Grammar.{more}
use Rattle.rc_edge.specs.Source.{successor_due}
use Rattle.rc_edge.proofs.source.read_successors.Given as goal

abbrev pub invariant-loop : goal.invariant-loop
invariant-loop g l =
    let one = λ (_ : List ℕ). successor_due g.S.NumberSource.due l.count l.activity in
    more one (l.many - l.counter) l.successors.items l.source ≡ more one l.many [] l.fn.source
