-- Whether a list can descend, by whether there is a misfit.
use Rattle.std.proofs.Common.{◌≡◌, ℕ, List, Some, Ok, Err, ap}
use Rattle.rc_instance.specs.declared.misfit.Misfit.{Misfit as Shown}
use Rattle.rc_instance.specs.Project.{Project}
use Rattle.rc_instance.specs.Misfit.{HasNoMisfit, IsFirstMisfit}
use Rattle.rc_instance.proofs.MisfitLaws.{first_misfit-is, first_misfit-none}
use Rattle.rcpsp_run.specs.declared.refusal.Refusal.TheVariants.{Misfit}
use Rattle.rc_instance.specs.Results.{◌>>=◌}
use Rattle.swap_descent.specs.Descent.{descent}
use Rattle.rcpsp_run.specs.Steps.Schedule.{without_misfit}
use Rattle.rcpsp_run.specs.Steps.Descent.{descended_if}

-- the first misfit is the refusal
pub descended-misfit : (project : Project) (rounds : ℕ) (list : List ℕ) (shown : Shown)
    → IsFirstMisfit project shown
    → descended_if (Some rounds) project list ≡ Err (Misfit shown)
descended-misfit project rounds list shown first =
    ap (λ found. without_misfit found >>= (λ _. Ok (descent project rounds list)))
    (first_misfit-is project shown first)

-- without one it is the descent
pub descended-fits : (project : Project) (rounds : ℕ) (list : List ℕ) → HasNoMisfit project
    → descended_if (Some rounds) project list ≡ Ok (descent project rounds list)
descended-fits project rounds list fits =
    ap (λ found. without_misfit found >>= (λ _. Ok (descent project rounds list)))
    (first_misfit-none project fits)
