use Rattle.std.proofs.Common.{inr}
use Rattle.std.proofs.lemmas.Result.{err_from_is_err_and, IfErr-weaker}
use Rattle.psplib_read.proofs.KindLaws.{kind_is}
use Rattle.psplib_read.proofs.TextLaws.{text_is}
use Rattle.psplib_read.proofs.PartsLaws.{parts_fit, demands_fit, successors_fit, instance_read, refused_for_memory, text_refused}
use Rattle.psplib_read.proofs.read.read_sm.Goals as goal

pub returns-in_err-parts-clause-reads : goal.returns-in_err-parts-clause-reads
returns-in_err-parts-clause-reads c =
    let passed = err_from_is_err_and c.from_residual.result c.from_residual.ensures.1 in
    let refused = c.in_err-parts.ensures in
    rw (passed.1, passed.2) (text_refused c.args.bytes.now c.in_err-parts.field-0.0 refused)

pub returns-in_err-parts-clause-kinds : goal.returns-in_err-parts-clause-kinds
returns-in_err-parts-clause-kinds c =
    let passed = err_from_is_err_and c.from_residual.result c.from_residual.ensures.1 in
    let fault = c.in_err-parts.field-0.0 in
    let refused = c.in_err-parts.ensures in
    rw (passed.1, passed.2)
    (kind_is c.args.bytes.now fault (text_refused c.args.bytes.now fault refused))

pub built-requires-clause-successors : goal.built-requires-clause-successors
built-requires-clause-successors c =
    let text = c.in_ok-parts.ensures in
    successors_fit text.0 c.in_ok-parts.parts text.2 (text_is _ text.0 text.1)

pub built-requires-clause-demands : goal.built-requires-clause-demands
built-requires-clause-demands c =
    let text = c.in_ok-parts.ensures in
    demands_fit text.0 c.in_ok-parts.parts text.2 (text_is _ text.0 text.1)

pub built-requires-clause-fits : goal.built-requires-clause-fits
built-requires-clause-fits c =
    let text = c.in_ok-parts.ensures in
    parts_fit text.0 c.in_ok-parts.parts text.2 (text_is _ text.0 text.1)

pub returns-clause-reads : goal.returns-clause-reads
returns-clause-reads c =
    let text = c.in_ok-parts.ensures in
    let read = text.1 in
    instance_read _ c.args.bytes.now text.0 c.in_ok-parts.parts _ read text.2 c.built.ensures

pub returns-clause-kinds : goal.returns-clause-kinds
returns-clause-kinds c =
    IfErr-weaker _ _ _ (λ fault memory. kind_is c.args.bytes.now fault (inr memory))
    (refused_for_memory _ c.in_ok-parts.parts _ c.built.ensures)
