use Rattle.parallel_scheme.proofs.StartLaws.{can_start_decides}
use Rattle.parallel_scheme.proofs.laws.test_of_start_is_exact.Goals as goal

pub returns : goal.returns
returns c project bookings t a activity = can_start_decides project bookings t a activity
