use Rattle.std.proofs.Common.{◌+◌, ◌∙◌, ap, sym, take, drop, arith}
use Rattle.std.proofs.lemmas.List.{drop_all, take_rest}
use Rattle.std.specs.Io.BufRead.{strip_last}
use Rattle.psplib_read.specs.Lines.{is_newline}
use Rattle.psplib_read.proofs.LineLaws.{place_found, place_missing, text_with_end, text_without_end}
use Rattle.psplib_read.proofs.split.split_line.Goals as goal

pub returns-in-Some-clause-text : goal.returns-in-Some-clause-text
returns-in-Some-clause-text c =
    let bytes = c.args.bytes.now in
    let place = place_found is_newline bytes c.in-Some.end c.in-Some.ensures.place in
    c.without_return.ensures.text ∙ ap (λ n. strip_last 13 (take n bytes)) place
    ∙ sym (text_with_end bytes (omega (arith, place, c.in-Some.ensures.within)))

pub returns-in-Some-clause-rest : goal.returns-in-Some-clause-rest
returns-in-Some-clause-rest c =
    let bytes = c.args.bytes.now in
    let place = place_found is_newline bytes c.in-Some.end c.in-Some.ensures.place in
    take_rest bytes (c.in-Some.end + 1) ∙ ap (λ n. drop (n + 1) bytes) place

pub returns-in-None-clause-text : goal.returns-in-None-clause-text
returns-in-None-clause-text c =
    let bytes = c.args.bytes.now in
    sym (text_without_end bytes (place_missing is_newline bytes c.in-None.ensures.place))

pub returns-in-None-clause-rest : goal.returns-in-None-clause-rest
returns-in-None-clause-rest c =
    let bytes = c.args.bytes.now in
    let none = place_missing is_newline bytes c.in-None.ensures.place in
    sym (drop_all _ bytes (omega (arith, none)))
