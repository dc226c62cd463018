use Rattle.rc_instance.proofs.CapacityLaws.{capacity_at-latest, capacity_at-before}
use Rattle.rc_instance.proofs.laws.latest_change_decides.Goals as goal

pub returns-clause-latest : goal.returns-clause-latest
returns-clause-latest c = capacity_at-latest

pub returns-clause-none : goal.returns-clause-none
returns-clause-none c = capacity_at-before
