use Rattle.time_windows.proofs.WindowLaws.{earliest-le-start, start-le-latest}
use Rattle.time_windows.proofs.laws.starts_lie_in_their_windows.Goals as goal

pub returns-clause-earliest : goal.returns-clause-earliest
returns-clause-earliest c project starts a t = earliest-le-start project starts a t

pub returns-clause-latest : goal.returns-clause-latest
returns-clause-latest c project order starts a = start-le-latest project order starts a
