use Rattle.std.proofs.Common.{not, length, ap, ◌∙◌}
use Rattle.std.specs.Prelude.{unwrap_or}
use Rattle.rc_edge.specs.Tokens.{is_white}
use Rattle.rc_edge.proofs.TokenLaws.{position-unwrap_or}
use Rattle.psplib_read.proofs.line.indent.Goals as goal

pub returns-clause-count : goal.returns-clause-count
returns-clause-count c =
    c.unwrap_or.ensures ∙ ap (λ first. unwrap_or first (length c.args.text.now))
    c.first_black.ensures
    ∙ position-unwrap_or (λ byte. not (is_white byte)) c.args.text.now
