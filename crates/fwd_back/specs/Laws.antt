-- The main laws of the improvement, each over all projects.
use Rattle.std.specs.Prelude.{◌≡◌, ◌≤◌, ℕ, List, nat_lt, if◌then◌else◌}
use Rattle.rc_instance.specs.Project.{Project}
use Rattle.rc_instance.specs.Schedule.{makespan}
use Rattle.fwd_back.specs.Improved.{forward, improved}

-- where a round shortens a schedule, it is improved further from there on; else it stays
abbrev pub ImprovedIsRepeated : Type 0
ImprovedIsRepeated = (project : Project) (starts : List ℕ)
    → improved project starts
    ≡ (if nat_lt (makespan project (forward project starts)) (makespan project starts)
    then improved project (forward project starts) else starts)

-- an improved schedule is never longer
abbrev pub ImprovedIsNeverLonger : Type 0
ImprovedIsNeverLonger = (project : Project) (starts : List ℕ)
    → makespan project (improved project starts) ≤ makespan project starts

-- improving it again changes nothing
abbrev pub ImprovedStays : Type 0
ImprovedStays = (project : Project) (starts : List ℕ)
    → improved project (improved project starts) ≡ improved project starts
