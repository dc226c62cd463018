use Rattle.key_sampling.proofs.PartLaws.{best-unique}
use Rattle.key_sampling.proofs.laws.best_is_unique.Goals as goal

pub returns : goal.returns
returns c project seed from count a b = best-unique project seed from count a b
