use Rattle.std.proofs.Common.{sym}
use Rattle.rc_instance.proofs.StartLaws.{least_from-exact}
use Rattle.rc_instance.proofs.laws.least_start_is_unique.Goals as goal

pub returns : goal.returns
returns c project bookings a floor t h = sym (least_from-exact project bookings a floor t h)
