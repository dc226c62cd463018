use Rattle.fwd_back.proofs.ImprovedLaws.{improved-repeated}
use Rattle.fwd_back.proofs.laws.improved_is_repeated.Goals as goal

pub returns : goal.returns
returns c project starts = improved-repeated project starts
