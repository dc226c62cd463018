use Rattle.time_windows.proofs.LongestLaws.{earliest_of-is, tail_of-is, critical_of-is}
use Rattle.time_windows.proofs.laws.times_are_computed.Goals as goal

pub returns-clause-earliest : goal.returns-clause-earliest
returns-clause-earliest c project order a = earliest_of-is project order a

pub returns-clause-tail : goal.returns-clause-tail
returns-clause-tail c project order a = tail_of-is project order a

pub returns-clause-critical : goal.returns-clause-critical
returns-clause-critical c project order = critical_of-is project order
