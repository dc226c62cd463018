use Rattle.std.proofs.Common.{◌≡◌, max, subst, ap, arith, rules}
use Rattle.std.specs.List.{fold}
use Rattle.rc_instance.specs.Calendar.{IsWithinLimits}
use Rattle.rc_instance.specs.declared.change.Change.{Change}
use Rattle.rc_instance.specs.Project.{last_change}
use Rattle.rc_instance.proofs.LimitLaws.{fold_max-is, last_change-le}
use Rattle.rc_instance.proofs.instance.Instance.last_change.Goals as goal

pub returns-clause-value : goal.returns-clause-value
unfolding last_change
returns-clause-value c =
    let folded : c.fold.result ≡ fold (λ a (x : Change). max a x.period) 0 c.self.inside.changes.items = search rules in
    let most = fold_max-is (λ (x : Change). x.period) 0 c.self.inside.changes.items in
    omega (arith, ap last_change c.self.view_is)

pub returns-clause-within : goal.returns-clause-within
unfolding last_change
returns-clause-within c =
    let limits = subst IsWithinLimits c.self.view_is c.self.invariant in
    let folded : c.fold.result ≡ fold (λ a (x : Change). max a x.period) 0 c.self.inside.changes.items = search rules in
    let most = fold_max-is (λ (x : Change). x.period) 0 c.self.inside.changes.items in
    omega (arith, ap last_change c.self.view_is, last_change-le c.args.self.now limits)
