use Rattle.schedule_check.proofs.FeasibleLaws.{feasible_without_violation}
use Rattle.schedule_check.proofs.laws.plan_without_violation_is_feasible.Goals as goal

pub returns : goal.returns
returns c = feasible_without_violation
