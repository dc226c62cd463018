-- The main laws of the descent, each over all projects.
use Rattle.std.specs.Prelude.{◌≡◌, ◌≤◌, ℕ, List, None}
use Rattle.rc_instance.specs.Project.{Project}
use Rattle.rc_instance.specs.Order.{IsFeasibleList}
use Rattle.swap_descent.specs.Descent.{serial_makespan, first_swap, descent}

-- from a feasible list the descent goes to a feasible list
abbrev pub DescentIsFeasible : Type 0
DescentIsFeasible = (project : Project) (rounds : ℕ) (order : List ℕ) → IsFeasibleList project order
    → IsFeasibleList project (descent project rounds order)

-- the serial schedule of the descended list is never longer
abbrev pub DescentIsNeverLonger : Type 0
DescentIsNeverLonger = (project : Project) (rounds : ℕ) (order : List ℕ)
    → serial_makespan project (descent project rounds order) ≤ serial_makespan project order

-- where no exchange improves, the order stays, however many rounds are left
abbrev pub DescentStays : Type 0
DescentStays = (project : Project) (rounds : ℕ) (order : List ℕ) → first_swap project order ≡ None
    → descent project rounds order ≡ order
