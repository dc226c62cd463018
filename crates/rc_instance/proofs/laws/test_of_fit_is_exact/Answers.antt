use Rattle.rc_instance.proofs.StartLaws.{fits_decides}
use Rattle.rc_instance.proofs.laws.test_of_fit_is_exact.Goals as goal

pub returns : goal.returns
returns c project bookings a t = fits_decides project bookings a t
