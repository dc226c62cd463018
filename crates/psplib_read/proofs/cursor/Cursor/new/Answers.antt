use Rattle.std.proofs.Common.{refl}
use Rattle.rc_edge.specs.Tokens.{tokens_from, tokens_after}
use Rattle.psplib_read.proofs.cursor.Cursor.new.Goals as goal

pub returns : goal.returns
unfolding tokens_from tokens_after
returns c = refl
