use Rattle.std.proofs.Common.{ap}
use Rattle.rc_instance.proofs.MisfitLaws.{first_misfit-is, first_misfit-none}
use Rattle.rcpsp_run.specs.Steps.Schedule.{without_misfit}
use Rattle.rcpsp_run.proofs.steps.misfit.fitting.Goals as goal

pub returns-in-Ok-clause-misfit : goal.returns-in-Ok-clause-misfit
returns-in-Ok-clause-misfit c =
    ap without_misfit (first_misfit-none c.args.instance.now c.in-Ok.ensures.ok)

pub returns-in-Err-clause-misfit : goal.returns-in-Err-clause-misfit
returns-in-Err-clause-misfit c =
    ap without_misfit (first_misfit-is c.args.instance.now c.in-Err.misfit c.in-Err.ensures.misfit)
