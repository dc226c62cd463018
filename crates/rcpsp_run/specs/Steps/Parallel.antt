-- The parallel schedule of a list.
use Rattle.std.specs.Prelude.{ℕ, List, Result, Ok}
use Rattle.rc_instance.specs.Project.{Project}
use Rattle.rc_instance.specs.Misfit.{first_misfit}
use Rattle.parallel_scheme.specs.Parallel.{parallel_schedule}
use Rattle.rcpsp_run.specs.declared.refusal.Refusal.{Refusal}
use Rattle.rc_instance.specs.Results.{◌>>=◌}
use Rattle.rcpsp_run.specs.Steps.Schedule.{without_misfit}

-- the starts of the parallel schedule of a list, where no demand is a misfit
unfoldable pub parallel_scheduled : Project → List ℕ → Result (List ℕ) Refusal
parallel_scheduled project list = do
  fits ← without_misfit (first_misfit project)
  Ok (parallel_schedule project list)
