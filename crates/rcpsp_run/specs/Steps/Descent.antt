-- The descent of a list.
use Rattle.std.specs.Prelude.{ℕ, List, Option, None, Some, Result, Ok}
use Rattle.rc_instance.specs.Project.{Project}
use Rattle.rc_instance.specs.Misfit.{first_misfit}
use Rattle.rc_instance.specs.Results.{◌>>=◌}
use Rattle.swap_descent.specs.Descent.{descent}
use Rattle.rcpsp_run.specs.declared.refusal.Refusal.{Refusal}
use Rattle.rcpsp_run.specs.Steps.Schedule.{without_misfit}

-- the list after so many rounds of descent, where no demand is a misfit; without rounds the list itself
abbrev pub descended_if : Option ℕ → Project → List ℕ → Result (List ℕ) Refusal
descended_if None project list = Ok list
descended_if (Some rounds) project list =
    without_misfit (first_misfit project) >>= (λ _. Ok (descent project rounds list))
