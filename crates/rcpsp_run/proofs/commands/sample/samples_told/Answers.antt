use Rattle.std.proofs.Common.{refl}
use Rattle.rc_instance.specs.Project.{activity_count}
use Rattle.rcpsp_run.specs.Live.{lines_for}
use Rattle.rcpsp_run.proofs.LiveLaws.{notes-early, notes-late, asked-lines}
use Rattle.rcpsp_run.proofs.commands.sample.samples_told.Goals as goal

pub returns-in_err-sample-in-Best-clause-noted : goal.returns-in_err-sample-in-Best-clause-noted
returns-in_err-sample-in-Best-clause-noted g c =
    notes-early _ _ _ _ _ _ c.from_residual.ensures.0 refl c.requires.well

pub returns-in_err-list-in-Best-clause-noted : goal.returns-in_err-list-in-Best-clause-noted
returns-in_err-list-in-Best-clause-noted g c =
    notes-early _ _ _ _ _ _ c.from_residual-in_err-list-in-Best.ensures.0 refl c.requires.well

pub returns-in_err-schedule-in-Best-clause-noted : goal.returns-in_err-schedule-in-Best-clause-noted
returns-in_err-schedule-in-Best-clause-noted g c =
    notes-early _ _ _ _ _ _ c.from_residual-in_err-schedule-in-Best.ensures.0
    (rw c.in_err-schedule-in-Best.ensures.kept.0 refl)
    c.in_err-schedule-in-Best.ensures.kept.1

pub returns-in_err-text-in-Best-clause-noted : goal.returns-in_err-text-in-Best-clause-noted
returns-in_err-text-in-Best-clause-noted g c =
    let positions = activity_count c.in_ok-list-in-Best.list.network.project in
    let live = c.in-Best.live in
    notes-late _ _ (lines_for live positions) _ _ _ _
    c.from_residual-in_err-text-in-Best.ensures.1
    (rw c.in-Best.is (asked-lines live positions))
    c.in_ok-schedule-in-Best.ensures.told

pub returns-in_err-text-in-All-clause-noted : goal.returns-in_err-text-in-All-clause-noted
returns-in_err-text-in-All-clause-noted g c =
    notes-early _ _ _ _ _ _ c.from_residual-in_err-text-in-All.ensures.0 refl c.requires.well
