use Rattle.std.proofs.Common.{◌≡◌, subst, sym, arith}
use Rattle.rc_instance.specs.Calendar.{IsWithinLimits}
use Rattle.rc_instance.specs.Lists.{IsRising}
use Rattle.rc_instance.specs.Project.{activity_count, successors_of}
use Rattle.std.proofs.lemmas.Grind.{common_steps}
use Rattle.rc_instance.proofs.LimitLaws.{successors_are}
use Rattle.rc_instance.proofs.instance.Instance.successors.Goals as goal

pub returns-clause-within : goal.returns-clause-within
unfolding successors_of
returns-clause-within c =
    let limits = subst IsWithinLimits c.self.view_is c.self.invariant in
    let value : c.deref.result.now ≡ successors_of c.args.self.now c.args.activity = grind (arith, common_steps) in
    subst (IsRising (activity_count c.args.self.now)) (sym value) (successors_are c.args.self.now c.args.activity limits c.requires)
