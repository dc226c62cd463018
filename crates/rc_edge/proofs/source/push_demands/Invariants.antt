use Rattle.std.proofs.Common.{◌≡◌, ◌-◌, ◌++◌, ℕ, List, []}
use Rattle.rc_edge.specs.Grammar.{more}
use Rattle.rc_edge.specs.Source.{demand_due}
use Rattle.rc_edge.proofs.source.push_demands.Given as goal

abbrev pub invariant-loop : goal.invariant-loop
invariant-loop g l =
    let one = λ (_ : List ℕ). demand_due g.S.NumberSource.due in
    (found : List ℕ) × (l.demands.items ≡ l.fn.demands.items ++ found)
    × (more one (l.resources - l.counter) found l.source ≡ more one l.resources [] l.fn.source)
