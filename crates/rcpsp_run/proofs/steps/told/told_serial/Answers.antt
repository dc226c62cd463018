use Rattle.std.proofs.Common.{refl}
use Rattle.rcpsp_run.proofs.LiveLaws.{on_ok, on_err}
use Rattle.rcpsp_run.proofs.steps.told.told_serial.Goals as goal

pub returns-in-None-clause-told : goal.returns-in-None-clause-told
returns-in-None-clause-told g c =
    rw c.in-None.is (on_ok c.serial_of.result (refl, c.requires.well))

pub returns-in-None-clause-kept : goal.returns-in-None-clause-kept
returns-in-None-clause-kept g c = on_err c.serial_of.result (refl, c.requires.well)

pub returns-in-Some-clause-told : goal.returns-in-Some-clause-told
returns-in-Some-clause-told g c = rw c.in-Some.is c.live_serial.ensures.told
