use Rattle.std.proofs.Common.{◌≡◌, inl, ℕ, List, [], ◌∷◌, ◌++◌, Ok, Err}
use Rattle.std.proofs.lemmas.Result.{err_from_is_err_and}
use Rattle.rc_edge.specs.Grammar.{more}
use Rattle.rc_edge.specs.Source.{successor_due}
use Rattle.rc_edge.proofs.GrammarLaws.{goes_on, fails, ends}
use Rattle.rc_edge.proofs.source.read_successors.Goals as goal

pub returns-in_err-successor : goal.returns-in_err-successor
returns-in_err-successor g c =
    let passed = err_from_is_err_and c.from_residual.result c.from_residual.ensures.1 in
    let one = λ (_ : List ℕ). successor_due g.S.NumberSource.due c.args.count c.args.activity in
    let found = c.loop.successors.items in
    let fault = c.in_err-successor.field-0.0 in
    let refused : one found c.loop.source ≡ Err fault = c.in_err-successor.ensures in
    rw (passed.1, passed.2) (inl (fails one c.args.many c.loop.counter found c.loop.source fault _
    c.loop-test.true c.loop.invariant refused))

pub loop-preserved : goal.loop-preserved
loop-preserved g c =
    let one = λ (_ : List ℕ). successor_due g.S.NumberSource.due c.args.count c.args.activity in
    let found = c.loop.successors.items in
    let successor = c.in_ok-successor.successor in
    let left = c.read_successor.new.source in
    let read : one found c.loop.source ≡ Ok (successor, left) = c.in_ok-successor.ensures in
    let pushed : c.push.new.self.items ≡ found ++ successor ∷ [] = c.in_ok-push.ensures.items in
    rw pushed (goes_on one c.args.many c.loop.counter found c.loop.source successor left _
    c.loop-test.true read c.loop.invariant)

pub returns : goal.returns
returns g c =
    ends (λ (_ : List ℕ). successor_due g.S.NumberSource.due c.args.count c.args.activity)
    c.args.many c.loop.counter c.loop.successors.items c.loop.source _ c.loop-test.false
    c.loop.invariant
