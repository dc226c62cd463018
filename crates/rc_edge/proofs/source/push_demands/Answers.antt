use Rattle.std.proofs.Common.{◌≡◌, inl, ℕ, ◌-◌, List, [], ◌∷◌, ◌++◌, Ok, Err, refl, sym, ap, ◌∙◌, append-nil, append_assoc, arith}
use Rattle.std.proofs.lemmas.Result.{err_from_is_err_and}
use Rattle.rc_edge.specs.Grammar.{more}
use Rattle.rc_edge.specs.Source.{demand_due}
use Rattle.rc_edge.proofs.GrammarLaws.{goes_on, fails, ends}
use Rattle.rc_edge.proofs.source.push_demands.Goals as goal

pub loop-init : goal.loop-init
loop-init g c =
    let all : c.args.resources - 0 ≡ c.args.resources = omega arith in
    ([], sym (append-nil c.args.demands.now.items), rw all refl)

pub returns-in_err-demand : goal.returns-in_err-demand
returns-in_err-demand g c =
    let passed = err_from_is_err_and c.from_residual.result c.from_residual.ensures.1 in
    let one = λ (_ : List ℕ). demand_due g.S.NumberSource.due in
    let found = c.loop.invariant.0 in
    let fault = c.in_err-demand.field-0.0 in
    let refused : one found c.loop.source ≡ Err fault = c.in_err-demand.ensures in
    rw (passed.1, passed.2) (inl (fails one c.args.resources c.loop.counter found c.loop.source
    fault _ c.loop-test.true c.loop.invariant.2 refused))

pub loop-preserved : goal.loop-preserved
loop-preserved g c =
    let one = λ (_ : List ℕ). demand_due g.S.NumberSource.due in
    let found = c.loop.invariant.0 in
    let before = c.args.demands.now.items in
    let demand = c.in_ok-demand.demand in
    let left = c.read_demand.new.source in
    let read : one found c.loop.source ≡ Ok (demand, left) = c.in_ok-demand.ensures in
    let pushed = c.in_ok-push.ensures.items ∙ ap (λ (ns : List ℕ). ns ++ demand ∷ []) c.loop.invariant.1
    ∙ append_assoc before found (demand ∷ []) in (
      found ++ demand ∷ [],
      pushed,
      goes_on one c.args.resources c.loop.counter found c.loop.source
          demand left _ c.loop-test.true read c.loop.invariant.2,
    )

pub returns : goal.returns
returns g c =
    let found = c.loop.invariant.0 in (
      (found, c.loop.source),
      ends (λ (_ : List ℕ). demand_due g.S.NumberSource.due)
          c.args.resources c.loop.counter found c.loop.source _ c.loop-test.false c.loop.invariant.2,
      (c.loop.invariant.1, refl),
    )
