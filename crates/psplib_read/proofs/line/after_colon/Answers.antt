use Rattle.std.proofs.Common.{◌+◌, ap, sym, arith, ◌∙◌, drop}
use Rattle.std.proofs.lemmas.List.{drop_all, take_rest}
use Rattle.psplib_read.specs.Lines.{is_colon}
use Rattle.psplib_read.proofs.LineLaws.{place_found, place_missing}
use Rattle.psplib_read.proofs.line.after_colon.Goals as goal

pub returns-in-Some-clause-rest : goal.returns-in-Some-clause-rest
returns-in-Some-clause-rest c =
    let text = c.args.text.now in
    let place = place_found is_colon text c.in-Some.colon c.in-Some.ensures.place in
    take_rest text (c.in-Some.colon + 1) ∙ ap (λ n. drop (n + 1) text) place

pub returns-in-None-clause-rest : goal.returns-in-None-clause-rest
returns-in-None-clause-rest c =
    let text = c.args.text.now in
    let none = place_missing is_colon text c.in-None.ensures.place in
    sym (drop_all _ text (omega (arith, none)))
