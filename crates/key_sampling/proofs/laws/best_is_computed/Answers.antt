use Rattle.key_sampling.proofs.PartLaws.{best_of-is}
use Rattle.key_sampling.proofs.laws.best_is_computed.Goals as goal

pub returns : goal.returns
returns c project seed from count some = best_of-is project seed from count some
