use Rattle.std.proofs.Common.{◌∙◌, ap, subst, arith}
use Rattle.rc_instance.specs.Project.{Project, duration}
use Rattle.rc_instance.specs.Calendar.{IsWithinLimits}
use Rattle.activity_net.specs.Network.{Network}
use Rattle.priority_rules.proofs.RuleLaws.{latest_finish-le}
use Rattle.priority_rules.proofs.rule_list.key_of.Goals as goal

pub overflow_add-result : goal.overflow_add-result
overflow_add-result c =
    let network = c.args.windows.now in
    let a = c.args.activity in
    let limits = subst (λ (network : Network). IsWithinLimits network.project) c.net-net.ensures
    c.instance-instance.ensures.limits in
    let own = c.duration.ensures.value ∙ ap (λ (project : Project). duration project a)
    c.instance-instance.ensures.value
    ∙ ap (λ (network : Network). duration network.project a) c.net-net.ensures in
    omega (
      arith,
      latest_finish-le network.project network.order a limits c.requires.order c.requires.activity,
      c.latest.ensures.value,
      own,
    )
