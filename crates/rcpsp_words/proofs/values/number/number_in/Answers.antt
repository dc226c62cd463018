use Rattle.std.proofs.Common.{◌≡◌, ◌<◌, true, length, arith, rules, sym, ◌∙◌}
use Rattle.std.specs.Str.{all_ascii_digits}
use Rattle.std.proofs.lemmas.Bool.Decides.{nat_tests}
use Rattle.rcpsp_words.proofs.NumberLaws.{number_in-unparsed}
use Rattle.rcpsp_words.proofs.values.number.number_in.Goals as goal

pub returns-in_err-number : goal.returns-in_err-number
returns-in_err-number c =
    let digits : all_ascii_digits c.args.text.now ≡ true = search rules in
    let some : 0 < length c.args.text.now = grind (arith, nat_tests) in
    c.from_residual.ensures
    ∙ sym (number_in-unparsed c.parse.result c.args.text.now c.args.least c.args.greatest
    (omega arith) digits some c.parse.ensures.value.0 (search rules))
