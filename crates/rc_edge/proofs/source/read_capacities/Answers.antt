use Rattle.std.proofs.Common.{◌≡◌, inl, ℕ, ◌+◌, [], ◌∷◌, ◌++◌, Ok, Err, ap, ◌∙◌}
use Rattle.std.proofs.lemmas.Result.{err_from_is_err_and}
use Rattle.std.proofs.lemmas.List.{length_push}
use Rattle.rc_edge.specs.Grammar.{more}
use Rattle.rc_edge.specs.Source.{next_capacity}
use Rattle.rc_edge.proofs.GrammarLaws.{goes_on, fails, ends}
use Rattle.rc_edge.proofs.source.read_capacities.Goals as goal

pub returns-in_err-capacity : goal.returns-in_err-capacity
returns-in_err-capacity g c =
    let passed = err_from_is_err_and c.from_residual.result c.from_residual.ensures.1 in
    let one = next_capacity g.S.NumberSource.due in
    let found = c.loop-index.capacities.items in
    let fault = c.in_err-capacity.field-0.0 in
    let before = c.loop-index.invariant in
    let refused : one found c.loop-index.source ≡ Err fault =
    rw before.0 c.in_err-capacity.ensures in
    rw (passed.1, passed.2) (inl (fails one c.args.resources c.loop-index.index found
    c.loop-index.source fault _ c.loop-index-test.true before.1 refused))

pub loop-index-preserved : goal.loop-index-preserved
loop-index-preserved g c =
    let one = next_capacity g.S.NumberSource.due in
    let found = c.loop-index.capacities.items in
    let capacity = c.in_ok-capacity.capacity in
    let before = c.loop-index.invariant in
    let read : one found c.loop-index.source ≡ Ok (capacity, c.read_capacity.new.source) =
    rw before.0 c.in_ok-capacity.ensures in
    let pushed : c.push.new.self.items ≡ found ++ capacity ∷ [] = c.in_ok-push.ensures.items in
    let more_found = goes_on one c.args.resources c.loop-index.index found c.loop-index.source
    capacity c.read_capacity.new.source _ c.loop-index-test.true read before.1 in
    (rw pushed (length_push found capacity ∙ ap (λ (n : ℕ). n + 1) before.0), rw pushed more_found)

pub returns : goal.returns
returns g c =
    ends (next_capacity g.S.NumberSource.due) c.args.resources c.loop-index.index
    c.loop-index.capacities.items c.loop-index.source _ c.loop-index-test.false
    c.loop-index.invariant.1
