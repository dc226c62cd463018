use Rattle.std.proofs.Common.{Ok, ap, sym, subst, ◌∙◌}
use Rattle.activity_net.specs.Network.{Listing}
use Rattle.serial_plain.specs.declared.fault.SchemeFault.TheVariants.{Misfit}
use Rattle.serial_plain.specs.Fault.{IsFault}
use Rattle.swap_descent.specs.Descent.{descent}
use Rattle.rcpsp_run.proofs.DescendedLaws.{descended-misfit, descended-fits}
use Rattle.rcpsp_run.proofs.steps.descent.descended.Goals as goal

pub returns-in-Ok-clause-list : goal.returns-in-Ok-clause-list
returns-in-Ok-clause-list c =
    let project = c.args.list.network.project in
    let rounds = c.args.rounds.now in
    descended-fits project rounds c.args.list.order c.in-Ok.ensures.fits
    ∙ ap Ok (sym (ap (λ (l : Listing). l.order) c.in-Ok.ensures.list
    ∙ ap (λ r. descent project r c.args.list.order) c.count.ensures.value))

pub returns-in-Err-Misfit-clause-list : goal.returns-in-Err-Misfit-clause-list
returns-in-Err-Misfit-clause-list c =
    let project = c.args.list.network.project in
    let first : IsFault project (Misfit c.in-Err-Misfit.misfit) =
    subst (IsFault project) c.in-Err-Misfit.field-0-is c.in-Err-Misfit.ensures.refused in
    descended-misfit project c.args.rounds.now c.args.list.order c.in-Err-Misfit.misfit first
