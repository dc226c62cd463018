use Rattle.rc_instance.proofs.StartLaws.{last_by-is}
use Rattle.rc_instance.proofs.laws.latest_start_exists.Goals as goal

pub returns : goal.returns
returns c project bookings a end t = last_by-is project bookings a end t
