use Rattle.schedule_check.proofs.AcceptedLaws.{accepted_if_feasible, accepted_if_serial}
use Rattle.schedule_check.proofs.laws.csv_is_accepted.Goals as goal

pub returns-clause-feasible : goal.returns-clause-feasible
returns-clause-feasible c = accepted_if_feasible

pub returns-clause-serial : goal.returns-clause-serial
returns-clause-serial c = accepted_if_serial
