use Rattle.rc_instance.proofs.SerialLaws.{serial_start-later}
use Rattle.rc_instance.proofs.laws.early_start_is_no_later.Goals as goal

pub returns : goal.returns
returns facts project order c i = serial_start-later project order c i
