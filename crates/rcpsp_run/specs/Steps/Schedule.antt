-- The serial schedule of a list.
use Rattle.std.specs.Prelude.{ℕ, List, Option, None, Some, Result, Ok, Err}
use Rattle.rc_instance.specs.declared.misfit.Misfit.{Misfit as Shown}
use Rattle.rc_instance.specs.Project.{Project}
use Rattle.rc_instance.specs.Misfit.{first_misfit}
use Rattle.rc_instance.specs.Schedule.{serial_schedule}
use Rattle.rcpsp_run.specs.declared.refusal.Refusal.{Refusal}
use Rattle.rcpsp_run.specs.declared.refusal.Refusal.TheVariants.{Misfit}
use Rattle.rc_instance.specs.Results.{◌>>=◌}

-- nothing, or a misfit
abbrev pub without_misfit : Option Shown → Result (Unit {0}) Refusal
without_misfit None = Ok tt
without_misfit (Some misfit) = Err (Misfit misfit)

-- the starts of the serial schedule of a list, where no demand is a misfit
unfoldable pub scheduled : Project → List ℕ → Result (List ℕ) Refusal
scheduled project list = do
  fits ← without_misfit (first_misfit project)
  Ok (serial_schedule project list)
