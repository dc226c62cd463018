use Rattle.std.proofs.Common.{refl}
use Rattle.psplib_read.specs.Left.{past_line}
use Rattle.psplib_read.proofs.CursorLaws.{none_after}
use Rattle.psplib_read.proofs.cursor.Cursor.skip_line.Goals as goal

pub returns : goal.returns
unfolding past_line
returns c = rw (← c.self.view_is, none_after c.self.inside.line.now) refl
