use Rattle.parallel_scheme.proofs.NonDelayLaws.{IsNonDelay-parallel}
use Rattle.parallel_scheme.proofs.laws.parallel_schedule_is_non_delay.Goals as goal

pub returns : goal.returns
returns c project order none list = IsNonDelay-parallel project order none list
