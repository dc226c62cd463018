use Rattle.fwd_back.proofs.ImprovedLaws.{makespan-improved}
use Rattle.fwd_back.proofs.laws.improved_is_never_longer.Goals as goal

pub returns : goal.returns
returns c project starts = makespan-improved project starts
