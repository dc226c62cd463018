use Rattle.time_windows.proofs.WindowLaws.{critical-le-makespan}
use Rattle.time_windows.proofs.BoundLaws.{capacity_bound-le-makespan}
use Rattle.time_windows.proofs.laws.makespan_is_at_least_the_bounds.Goals as goal

pub returns-clause-critical : goal.returns-clause-critical
returns-clause-critical c project starts t = critical-le-makespan project starts t

pub returns-clause-capacity : goal.returns-clause-capacity
returns-clause-capacity c project starts = capacity_bound-le-makespan project starts
