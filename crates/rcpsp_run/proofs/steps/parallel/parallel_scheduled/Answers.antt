use Rattle.std.proofs.Common.{Ok, ap, sym, subst, ◌∙◌}
use Rattle.rc_instance.specs.Results.{◌>>=◌}
use Rattle.rc_instance.proofs.MisfitLaws.{first_misfit-is, first_misfit-none}
use Rattle.serial_plain.specs.Fault.{IsFault}
use Rattle.parallel_scheme.specs.Parallel.{parallel_schedule}
use Rattle.rcpsp_run.specs.Steps.Parallel.{parallel_scheduled}
use Rattle.rcpsp_run.specs.Steps.Schedule.{without_misfit}
use Rattle.rcpsp_run.proofs.steps.parallel.parallel_scheduled.Goals as goal

pub returns-in-Ok-clause-starts : goal.returns-in-Ok-clause-starts
unfolding parallel_scheduled
returns-in-Ok-clause-starts c =
    let project = c.args.list.now.network.project in
    let order = c.args.list.now.order in
    ap (λ found. without_misfit found >>= (λ _. Ok (parallel_schedule project order)))
    (first_misfit-none project c.in-Ok.ensures.fits)
    ∙ ap Ok (sym c.in-Ok.ensures.schedule)

pub returns-in-Err-Misfit-clause-starts : goal.returns-in-Err-Misfit-clause-starts
unfolding parallel_scheduled
returns-in-Err-Misfit-clause-starts c =
    let project = c.args.list.now.network.project in
    let order = c.args.list.now.order in
    let fault : IsFault project c.in-Err-Misfit.field-0 = c.in-Err-Misfit.ensures.refused in
    ap (λ found. without_misfit found >>= (λ _. Ok (parallel_schedule project order)))
    (first_misfit-is project c.in-Err-Misfit.misfit
    (subst (IsFault project) c.in-Err-Misfit.field-0-is fault))
