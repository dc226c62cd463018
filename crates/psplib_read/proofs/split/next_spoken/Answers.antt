use Rattle.std.proofs.Common.{◌≡◌, ℕ, ◌+◌, ◌<◌, List, length, sym, ap, ◌∙◌, arith}
use Rattle.std.proofs.lemmas.Bool.{eqb-false, eqb-true}
use Rattle.std.proofs.lemmas.List.{length-drop}
use Rattle.psplib_read.specs.Lines.{Line, line_len}
use Rattle.psplib_read.proofs.LineLaws.{line_at, line_passed, line_found, lines_end}
use Rattle.psplib_read.proofs.split.next_spoken.Goals as goal

pub returns-then-not-is_silent-clause-first : goal.returns-then-not-is_silent-clause-first
returns-then-not-is_silent-clause-first c =
    let bytes = c.loop-rest.rest.now in
    let at = c.loop-rest.at in
    let line : Line = record { text = c.split_line.result.0.now; at = at } in
    let line_is : line ≡ line_at at bytes = ap (λ (text : List ℕ). record { text = text; at = at })
    c.split_line.ensures.text in
    let some : 0 < length bytes = omega
    (arith, eqb-false _ _ (sym c.is_empty.ensures ∙ c.loop-rest-test.true)) in
    line_found at bytes c.split_line.result.1.now line _ some c.split_line.ensures.rest line_is
    (sym c.is_silent.ensures ∙ c.if-not-is_silent.true) c.loop-rest.invariant.0

pub loop-rest-preserved : goal.loop-rest-preserved
loop-rest-preserved c =
    let bytes = c.loop-rest.rest.now in
    let at = c.loop-rest.at in
    let line : Line = record { text = c.split_line.result.0.now; at = at } in
    let line_is : line ≡ line_at at bytes = ap (λ (text : List ℕ). record { text = text; at = at })
    c.split_line.ensures.text in
    let some : 0 < length bytes = omega
    (arith, eqb-false _ _ (sym c.is_empty.ensures ∙ c.loop-rest-test.true)) in (
      line_passed at bytes c.split_line.result.1.now line _ some c.split_line.ensures.rest line_is
          (sym c.is_silent.ensures ∙ c.if-not-is_silent.false) c.loop-rest.invariant.0,
      omega (
        arith,
        ap length c.split_line.ensures.rest,
        length-drop (line_len bytes + 1) bytes,
        some,
      ),
    )

pub returns-clause-none : goal.returns-clause-none
returns-clause-none c =
    let none = eqb-true _ _ (sym c.is_empty.ensures ∙ c.loop-rest-test.false) in
    lines_end c.loop-rest.at c.loop-rest.rest.now _ (omega (arith, none)) c.loop-rest.invariant.0
