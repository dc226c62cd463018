use Rattle.schedule_check.proofs.PlanRecordLaws.{plan_of-Ok, plan_of-Err}
use Rattle.schedule_check.proofs.laws.records_are_read_one_by_one.Goals as goal

pub returns-clause-plan : goal.returns-clause-plan
returns-clause-plan c = plan_of-Ok

pub returns-clause-fault : goal.returns-clause-fault
returns-clause-fault c = plan_of-Err
