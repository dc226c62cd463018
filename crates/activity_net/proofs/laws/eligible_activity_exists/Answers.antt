use Rattle.activity_net.proofs.EligibleLaws.{eligible_exists}
use Rattle.activity_net.proofs.laws.eligible_activity_exists.Goals as goal

pub returns : goal.returns
returns c project order listed left = eligible_exists project order listed left
