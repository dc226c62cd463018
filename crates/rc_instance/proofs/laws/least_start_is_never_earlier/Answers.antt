use Rattle.rc_instance.proofs.UsageLaws.{IsLeastFrom-later}
use Rattle.rc_instance.proofs.laws.least_start_is_never_earlier.Goals as goal

pub returns : goal.returns
returns c project bookings more a floor later t u =
    IsLeastFrom-later project bookings more a floor later t u
