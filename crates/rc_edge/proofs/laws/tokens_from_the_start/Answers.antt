use Rattle.rc_edge.proofs.TokenLaws.{tokens_after_start}
use Rattle.rc_edge.proofs.laws.tokens_from_the_start.Goals as goal

pub returns : goal.returns
returns c = tokens_after_start
