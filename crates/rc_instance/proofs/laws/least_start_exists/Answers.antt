use Rattle.rc_instance.proofs.StartLaws.{least_from-is, least_from-le, least_start-is, least_start-le}
use Rattle.rc_instance.proofs.laws.least_start_exists.Goals as goal

pub returns-clause-from_floor : goal.returns-clause-from_floor
returns-clause-from_floor c project bookings a floor none activity =
    (least_from-is project bookings a floor none activity, least_from-le project bookings a floor)

pub returns-clause-after_predecessors : goal.returns-clause-after_predecessors
returns-clause-after_predecessors c project bookings a none activity =
    (least_start-is project bookings a none activity, least_start-le project bookings a)
