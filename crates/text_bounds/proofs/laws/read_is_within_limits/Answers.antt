use Rattle.text_bounds.proofs.WordBounds.{read_within}
use Rattle.text_bounds.proofs.laws.read_is_within_limits.Goals as goal

pub returns : goal.returns
returns c = read_within
