use Rattle.std.proofs.Common.{◌≡◌, ◌+◌, true, sym, ◌∙◌, arith}
use Rattle.rc_edge.specs.Numbers.{is_numeral}
use Rattle.rc_edge.proofs.NumberLaws.{digit_taken, number_too_large, number_read}
use Rattle.rc_edge.proofs.number.read_number.Goals as goal

pub returns-then-value-from : goal.returns-then-value-from
returns-then-value-from c =
    let token = c.args.token.now in
    let numeral : is_numeral token ≡ true = sym c.is_numeral.ensures ∙ c.if-not-is_numeral.false in
    let more = digit_taken token c.loop-byte.byte-index c.loop-byte.value c.from.result numeral c.loop-byte-test.true c.loop-byte.invariant.0 c.from.ensures in
    number_too_large token (c.loop-byte.byte-index + 1) numeral (omega (arith, more))

pub loop-byte-preserved : goal.loop-byte-preserved
loop-byte-preserved c =
    let token = c.args.token.now in
    let numeral : is_numeral token ≡ true = sym c.is_numeral.ensures ∙ c.if-not-is_numeral.false in
    (digit_taken token c.loop-byte.byte-index c.loop-byte.value c.from.result numeral c.loop-byte-test.true c.loop-byte.invariant.0 c.from.ensures, omega arith)

pub returns : goal.returns
returns c =
    let token = c.args.token.now in
    let numeral : is_numeral token ≡ true = sym c.is_numeral.ensures ∙ c.if-not-is_numeral.false in
    number_read token c.loop-byte.byte-index c.loop-byte.value numeral (omega arith) c.loop-byte.invariant.0 c.loop-byte.invariant.1
