use Rattle.std.proofs.Common.{length, ap, refl, ◌∙◌}
use Rattle.std.proofs.lemmas.Result.{MatchResult-from_err}
use Rattle.activity_net.specs.Network.{Listing}
use Rattle.rcpsp_run.proofs.LiveLaws.{tells-same}
use Rattle.rcpsp_run.proofs.steps.live.live_serial.Goals as goal

pub returns-clause-told : goal.returns-clause-told
returns-clause-told g c =
    let faults = g.N.Sink.faults in
    let held = g.N.Sink.held in
    let ran = c.run_book-ran in
    let all = ap (λ (l : Listing). length l.order) c.in_ok-book.ensures.listing
    ∙ c.net.ensures.feasible.count in
    tells-same _ _ _ _ (faults c.args.note.now) (faults ran.new.note) (held c.args.note.now)
    (held ran.new.note) ran.result.note_failed all c.in_ok-book.ensures.times ran.ensures.told

pub returns-in_err-known-clause-kept : goal.returns-in_err-known-clause-kept
returns-in_err-known-clause-kept g c =
    MatchResult-from_err c.from_residual.result _ _ c.from_residual.ensures.0
    (λ _. (refl, c.requires.well))

pub returns-in_err-book-clause-kept : goal.returns-in_err-book-clause-kept
returns-in_err-book-clause-kept g c =
    MatchResult-from_err c.from_residual-in_err-book.result _ _
    c.from_residual-in_err-book.ensures.0 (λ _. (refl, c.requires.well))
