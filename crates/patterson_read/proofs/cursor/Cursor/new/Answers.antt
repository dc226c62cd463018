use Rattle.std.proofs.Common.{refl}
use Rattle.rc_edge.proofs.TokenLaws.{tokens_after_start}
use Rattle.patterson_read.proofs.cursor.Cursor.new.Goals as goal

pub returns : goal.returns
returns c = rw (tokens_after_start c.args.text.now) refl
