use Rattle.std.proofs.Common.{◌≡◌, length, sym, ap, ◌∙◌, subst}
use Rattle.batch_line.specs.Batch.{IsEnding}
use Rattle.batch_line.specs.Runs.{ran_status, ran_text}
use Rattle.batch_line.proofs.JoinLaws.{joined_of_runs, runs_end}
use Rattle.batch_line.proofs.batch.joined_by.Goals as goal

pub returns-clause-joined : goal.returns-clause-joined
returns-clause-joined g c =
    let names = c.args.names.now in
    let rans = c.in_ok-rans.rans in
    let joined = c.in_ok-joined.joined in
    let size : length rans.items ≡ length names = sym rans.ok.0 ∙ c.in_ok-rans.ensures.count in
    let same = c.deref.ensures.value in
    joined_of_runs names c.args.texts.now rans.items joined.status joined.text.items size
    c.in_ok-rans.ensures.runs (c.in_ok-joined.ensures.status ∙ ap ran_status same)
    (c.in_ok-joined.ensures.text ∙ ap (ran_text names) same)

pub returns-clause-ends : goal.returns-clause-ends
returns-clause-ends g c =
    let names = c.args.names.now in
    let rans = c.in_ok-rans.rans in
    let size : length rans.items ≡ length names = sym rans.ok.0 ∙ c.in_ok-rans.ensures.count in
    let same = c.deref.ensures.value in
    subst IsEnding (sym (c.in_ok-joined.ensures.status ∙ ap ran_status same))
    (runs_end names c.args.texts.now rans.items size c.requires.each c.in_ok-rans.ensures.runs)
