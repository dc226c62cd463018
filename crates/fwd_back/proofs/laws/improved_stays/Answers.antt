use Rattle.fwd_back.proofs.ImprovedLaws.{improved-improved}
use Rattle.fwd_back.proofs.laws.improved_stays.Goals as goal

pub returns : goal.returns
returns c project starts = improved-improved project starts
