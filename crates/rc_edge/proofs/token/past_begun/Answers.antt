use Rattle.std.proofs.Common.{◌≡◌, ◌-◌, true, false, get_or, arith}
use Rattle.rc_edge.specs.Tokens.{is_white}
use Rattle.rc_edge.proofs.TokenLaws.{slice_rest, begun_before, none_begun}
use Rattle.rc_edge.proofs.token.past_begun.Goals as goal
use Rattle.rc_edge.proofs.token.past_begun.Goals.{else-from-gt0-via-then-from-gt0+else-not-is_white, else-from-gt0-via-else-from-gt0}

pub returns-then-not-is_white-clause-tokens : goal.returns-then-not-is_white-clause-tokens
returns-then-not-is_white-clause-tokens c =
    let bytes = c.args.bytes.now in
    let from = c.args.from in
    let size = rw (slice_rest from bytes) at c.word_len.ensures.count in
    let black : is_white (get_or bytes (from - 1) 0) ≡ false = cc in
    rw size (begun_before bytes from c.if-from-gt0.true c.requires black)

pub returns-else-from-gt0-clause-tokens : goal.returns-else-from-gt0-clause-tokens
returns-else-from-gt0-clause-tokens c =
    let bytes = c.args.bytes.now in
    let from = c.args.from in
    elim c.else-from-gt0.branch [
      | else-from-gt0-via-then-from-gt0+else-not-is_white w ↦
          let white : is_white (get_or bytes (from - 1) 0) ≡ true = cc in
          none_begun bytes from c.requires (λ _. white)
      | else-from-gt0-via-else-from-gt0 w ↦ none_begun bytes from c.requires (λ some. absurd (omega arith))
    ]
