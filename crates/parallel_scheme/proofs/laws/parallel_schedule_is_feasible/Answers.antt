use Rattle.parallel_scheme.proofs.ReachLaws.{IsFeasible-parallel, makespan-parallel}
use Rattle.parallel_scheme.proofs.laws.parallel_schedule_is_feasible.Goals as goal

pub returns : goal.returns
returns c project order none list = (
  IsFeasible-parallel project order none list,
  makespan-parallel project order none list,
)
