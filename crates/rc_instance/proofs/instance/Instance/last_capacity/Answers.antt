use Rattle.std.proofs.Common.{◌≡◌, subst, rules}
use Rattle.rc_instance.specs.Calendar.{IsWithinLimits}
use Rattle.rc_instance.specs.Project.{last_capacity}
use Rattle.rc_instance.proofs.LimitLaws.{capacity_by-le}
use Rattle.rc_instance.proofs.instance.Instance.last_capacity.Goals as goal

pub returns-clause-within : goal.returns-clause-within
unfolding last_capacity
returns-clause-within c =
    let limits = subst IsWithinLimits c.self.view_is c.self.invariant in
    let value : c.fold.result ≡ last_capacity c.args.self.now c.args.resource = search rules in
    rw value (capacity_by-le c.args.self.now c.args.resource _ limits c.requires)
