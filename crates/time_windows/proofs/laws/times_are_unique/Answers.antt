use Rattle.time_windows.proofs.LongestLaws.{IsEarliest-unique, IsTail-unique, IsCritical-unique}
use Rattle.time_windows.proofs.laws.times_are_unique.Goals as goal

pub returns-clause-earliest : goal.returns-clause-earliest
returns-clause-earliest c project a t u = IsEarliest-unique project a t u

pub returns-clause-tail : goal.returns-clause-tail
returns-clause-tail c project a t u = IsTail-unique project a t u

pub returns-clause-critical : goal.returns-clause-critical
returns-clause-critical c project t u = IsCritical-unique project t u
