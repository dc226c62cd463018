use Rattle.schedule_check.proofs.FeasibleLaws.{no_violation_of_feasible}
use Rattle.schedule_check.proofs.laws.feasible_schedule_has_no_violation.Goals as goal

pub returns : goal.returns
returns c = no_violation_of_feasible
