use Rattle.text_bounds.proofs.RingBounds.{cycle_short}
use Rattle.text_bounds.proofs.laws.cycle_is_short.Goals as goal

pub returns : goal.returns
returns c = cycle_short
