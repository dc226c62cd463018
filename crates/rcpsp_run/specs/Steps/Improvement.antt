-- The improvement of a schedule.
use Rattle.std.specs.Prelude.{ℕ, Bool, List, if◌then◌else◌}
use Rattle.rc_instance.specs.Project.{Project}
use Rattle.fwd_back.specs.Improved.{improved}

-- the improved schedule, where that is asked for, or else the schedule itself
abbrev pub improved_if : Bool → Project → List ℕ → List ℕ
improved_if improve project starts = if improve then improved project starts else starts
