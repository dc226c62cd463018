use Rattle.std.proofs.Common.{sym, ap, ◌∙◌, subst, arith}
use Rattle.rc_instance.specs.Calendar.{IsWithinLimits}
use Rattle.rc_instance.specs.Project.{activity_count}
use Rattle.activity_net.specs.Network.{Network}
use Rattle.swap_descent.proofs.placing.length_of.Goals as goal

pub returns-clause-length : goal.returns-clause-length
returns-clause-length c =
    c.count.ensures.value
    ∙ (ap activity_count (c.instance.ensures.value
    ∙ ap (λ (network : Network). network.project) c.net.ensures.value)
    ∙ sym c.net.ensures.feasible.count)

pub returns-clause-some : goal.returns-clause-some
returns-clause-some c = omega (arith, c.count.ensures.value, c.count.ensures.limits.some)

pub returns-clause-feasible : goal.returns-clause-feasible
returns-clause-feasible c = c.net.ensures.feasible

pub returns-clause-limits : goal.returns-clause-limits
returns-clause-limits c =
    subst (λ (network : Network). IsWithinLimits network.project) c.net.ensures.value
    c.instance.ensures.limits
