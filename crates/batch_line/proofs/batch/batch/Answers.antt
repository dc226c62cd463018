use Rattle.std.proofs.Common.{ℕ, List, ap, ◌∙◌, subst}
use Rattle.std.specs.declared.vec.Vec.{Vec}
use Rattle.std.specs.declared.alloc.Global.{Global}
use Rattle.std.proofs.lemmas.Result.{err_from_is_err_and}
use Rattle.rcpsp_run.proofs.CauseLaws.{names_now}
use Rattle.batch_line.specs.Runs.{IsJoinedOf, joined_view}
use Rattle.batch_line.proofs.ComesLaws.{comes_early, comes_refused, comes_short, comes_joined}
use Rattle.batch_line.proofs.batch.batch.Goals as goal

pub returns-in_err-words-clause-comes : goal.returns-in_err-words-clause-comes
returns-in_err-words-clause-comes g c =
    let passed = err_from_is_err_and c.from_residual.result c.from_residual.ensures.1 in
    rw (passed.1, passed.2) (comes_early c.args.names.now _)

pub returns-in_err-texts-clause-comes : goal.returns-in_err-texts-clause-comes
returns-in_err-texts-clause-comes g c =
    let refused = c.from_residual-in_err-texts in
    let passed = err_from_is_err_and refused.result refused.ensures.1 in
    let same = ap names_now c.deref.ensures.value ∙ c.in_ok-words.ensures in
    rw (passed.1, passed.2)
    (comes_refused c.args.names.now _ same _ _ c.in_err-texts.field-0.0 c.in_err-texts.ensures.comes)

pub returns-in_err-joined-clause-comes : goal.returns-in_err-joined-clause-comes
returns-in_err-joined-clause-comes g c =
    let refused = c.from_residual-in_err-joined in
    let passed = err_from_is_err_and refused.result refused.ensures.1 in
    let same = ap names_now c.deref.ensures.value ∙ c.in_ok-words.ensures in
    rw (passed.1, passed.2)
    (comes_short c.args.names.now _ same _ _ c.in_ok-texts.texts c.in_ok-texts.ensures.comes)

pub returns-clause-comes : goal.returns-clause-comes
returns-clause-comes g c =
    let same = ap names_now c.deref.ensures.value ∙ c.in_ok-words.ensures in
    let is = subst (λ (ts : List (Vec ℕ Global)). IsJoinedOf c.args.names.now ts
    (joined_view c.in_ok-joined.joined)) c.deref-2.ensures.value c.in_ok-joined.ensures.joined in
    comes_joined c.args.names.now _ same _ _ c.in_ok-texts.texts c.in_ok-joined.joined
    c.in_ok-texts.ensures.comes is
