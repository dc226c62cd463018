use Rattle.std.proofs.Common.{◌≡◌, subst, rules}
use Rattle.rc_instance.specs.Calendar.{IsWithinLimits}
use Rattle.rc_instance.specs.Project.{capacity_at}
use Rattle.rc_instance.proofs.LimitLaws.{capacity_by-le}
use Rattle.rc_instance.proofs.instance.Instance.capacity_at.Goals as goal

pub returns-clause-within : goal.returns-clause-within
unfolding capacity_at
returns-clause-within c =
    let limits = subst IsWithinLimits c.self.view_is c.self.invariant in
    let value : c.fold.result ≡ capacity_at c.args.self.now c.args.resource c.args.period = search rules in
    rw value (capacity_by-le c.args.self.now c.args.resource _ limits c.requires)
