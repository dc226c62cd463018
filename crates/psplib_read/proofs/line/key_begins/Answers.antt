use Rattle.std.proofs.Common.{◌≡◌, sym, ◌∙◌, get_or, arith}
use Rattle.std.proofs.lemmas.Bool.{eq-eqb, ne_eqb}
use Rattle.std.specs.Char.{to_ascii_lowercase}
use Rattle.psplib_read.proofs.KeyLaws.{matched_all, colon_comes, white_comes, same_letter_comes, other_letter_comes, line_passed}
use Rattle.psplib_read.proofs.line.key_begins.Goals as goal

pub returns-then-matched-word : goal.returns-then-matched-word
returns-then-matched-word c =
    matched_all c.args.word.now c.args.text.now c.loop-byte.matched c.loop-byte.byte-index _
    (omega arith) c.loop-byte.invariant.1

pub returns-then-byte-eq58 : goal.returns-then-byte-eq58
returns-then-byte-eq58 c =
    colon_comes c.args.word.now c.args.text.now c.loop-byte.matched c.loop-byte.byte-index _
    (omega arith) c.loop-byte-test.true
    (eq-eqb _ _ c.if-byte-eq58.true) c.loop-byte.invariant.1

pub loop-byte-preserved-then-is_white : goal.loop-byte-preserved-then-is_white
loop-byte-preserved-then-is_white c = (
  c.loop-byte.invariant.0,
  white_comes c.args.word.now c.args.text.now c.loop-byte.matched c.loop-byte.byte-index _
      c.loop-byte-test.true
      (ne_eqb _ _ c.if-byte-eq58.false) (sym c.is_white.ensures ∙ c.if-is_white.true)
      c.loop-byte.invariant.1,
)

pub returns-then-to_ascii_lowercase-word : goal.returns-then-to_ascii_lowercase-word
returns-then-to_ascii_lowercase-word c =
    let differ : get_or c.args.word.now c.loop-byte.matched 0
    ≡ to_ascii_lowercase (get_or c.args.text.now c.loop-byte.byte-index 0) → ⊥
    = λ same. c.if-to_ascii_lowercase-word.true (c.to_ascii_lowercase.ensures.value ∙ sym same) in
    other_letter_comes c.args.word.now c.args.text.now c.loop-byte.matched c.loop-byte.byte-index _
    (omega arith) c.loop-byte-test.true
    (ne_eqb _ _ c.if-byte-eq58.false) (sym c.is_white.ensures ∙ c.if-is_white.false) differ
    c.loop-byte.invariant.1

pub loop-byte-preserved : goal.loop-byte-preserved
loop-byte-preserved c =
    let same = sym c.if-to_ascii_lowercase-word.false ∙ c.to_ascii_lowercase.ensures.value in (
      omega arith,
      same_letter_comes c.args.word.now c.args.text.now c.loop-byte.matched c.loop-byte.byte-index _
          (omega arith) c.loop-byte-test.true
          (ne_eqb _ _ c.if-byte-eq58.false) (sym c.is_white.ensures ∙ c.if-is_white.false) same
          c.loop-byte.invariant.1,
    )

pub returns : goal.returns
returns c =
    line_passed c.args.word.now c.args.text.now c.loop-byte.matched c.loop-byte.byte-index _
    c.loop-byte.invariant.0 (omega arith) c.loop-byte.invariant.1
