use Rattle.rc_instance.proofs.FeasibleLaws.{IsFeasible-serial_schedule, makespan-serial_schedule-le-horizon}
use Rattle.rc_instance.proofs.laws.serial_schedule_is_feasible.Goals as goal

pub returns : goal.returns
returns c project order none list = (
  IsFeasible-serial_schedule project order none list,
  makespan-serial_schedule-le-horizon project order list,
)
