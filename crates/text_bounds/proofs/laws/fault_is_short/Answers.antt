use Rattle.text_bounds.proofs.WordBounds.{fault_short}
use Rattle.text_bounds.proofs.laws.fault_is_short.Goals as goal

pub returns : goal.returns
returns c = fault_short
