use Rattle.std.proofs.Common.{length, ap, ◌∙◌}
use Rattle.std.specs.Prelude.{unwrap_or}
use Rattle.rc_edge.specs.Tokens.{is_white}
use Rattle.rc_edge.proofs.TokenLaws.{position-unwrap_or}
use Rattle.rc_edge.proofs.token.word_len.Goals as goal

pub returns-clause-count : goal.returns-clause-count
returns-clause-count c =
    c.unwrap_or.ensures ∙ ap (λ first. unwrap_or first (length c.args.bytes.now)) c.first_white.ensures
    ∙ position-unwrap_or is_white c.args.bytes.now
