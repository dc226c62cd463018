use Rattle.std.proofs.Common.{sym}
use Rattle.rc_instance.proofs.StartLaws.{last_by-exact}
use Rattle.rc_instance.proofs.laws.latest_start_is_unique.Goals as goal

pub returns : goal.returns
returns c project bookings a end t h = sym (last_by-exact project bookings a end t h)
