use Rattle.text_bounds.proofs.WordBounds.{misfit_short}
use Rattle.text_bounds.proofs.laws.misfit_is_short.Goals as goal

pub returns : goal.returns
returns c = misfit_short
