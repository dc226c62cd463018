use Rattle.rc_instance.proofs.SerialLaws.{serial_within}
use Rattle.rc_instance.proofs.laws.serial_stays_within_capacity.Goals as goal

pub returns : goal.returns
returns c project order = serial_within project order
