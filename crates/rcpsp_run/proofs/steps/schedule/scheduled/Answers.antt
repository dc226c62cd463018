use Rattle.std.proofs.Common.{refl}
use Rattle.rcpsp_run.proofs.LiveLaws.{notes-early}
use Rattle.rcpsp_run.proofs.steps.schedule.scheduled.Goals as goal

pub returns-in_err-fitting-clause-noted : goal.returns-in_err-fitting-clause-noted
returns-in_err-fitting-clause-noted g c =
    notes-early _ _ _ _ _ _ c.from_residual.ensures.0 refl c.requires

pub returns-in_err-schedule-clause-noted : goal.returns-in_err-schedule-clause-noted
returns-in_err-schedule-clause-noted g c =
    notes-early _ _ _ _ _ _ c.from_residual-in_err-schedule.ensures.0
    (rw c.in_err-schedule.ensures.kept.0 refl)
    c.in_err-schedule.ensures.kept.1

pub returns-clause-noted : goal.returns-clause-noted
returns-clause-noted g c = record { told = c.in_ok-schedule.ensures.told; refused = tt }
