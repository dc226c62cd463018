use Rattle.time_windows.proofs.ReadLaws.{critical_read}
use Rattle.time_windows.proofs.windows.Windows.critical.Goals as goal

pub returns-clause-longest : goal.returns-clause-longest
returns-clause-longest c =
    (critical_read c.self.inside c.args.self.now c.self.view_is c.self.invariant).longest

pub returns-clause-within : goal.returns-clause-within
returns-clause-within c =
    (critical_read c.self.inside c.args.self.now c.self.view_is c.self.invariant).within
