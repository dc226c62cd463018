use Rattle.key_sampling.proofs.PartLaws.{best-of-parts}
use Rattle.key_sampling.proofs.laws.best_is_the_better_of_the_parts.Goals as goal

pub returns : goal.returns
returns c project seed from first second a b = best-of-parts project seed from first second a b
