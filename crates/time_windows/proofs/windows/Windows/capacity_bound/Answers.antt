use Rattle.time_windows.proofs.ReadLaws.{bound_read}
use Rattle.time_windows.proofs.windows.Windows.capacity_bound.Goals as goal

pub returns-clause-within : goal.returns-clause-within
returns-clause-within c =
    (bound_read c.self.inside c.args.self.now c.self.view_is c.self.invariant).1
