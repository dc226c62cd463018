-- Forward-backward improvement (after Li and Willis 1992).
use Rattle.std.specs.Prelude.{ℕ, zero, suc, List, nat_lt, if◌then◌else◌}
use Rattle.rc_instance.specs.Project.{Project}
use Rattle.rc_instance.specs.Schedule.{makespan, serial_schedule}
use Rattle.priority_rules.specs.KeyList.{key_list, key_in}
use Rattle.fwd_back.specs.Backward.{backward}

-- the forward pass: the serial schedule of the list by the backward starts
unfoldable pub forward : Project → List ℕ → List ℕ
forward project starts =
    serial_schedule project (key_list project (key_in (backward project starts)))

-- a backward and a forward pass, again while the makespan falls, but at most so many rounds
unfoldable pub improved_within : Project → ℕ → List ℕ → List ℕ
improved_within project zero starts = starts
improved_within project (suc rounds) starts =
    if nat_lt (makespan project (forward project starts)) (makespan project starts)
    then improved_within project rounds (forward project starts)
    else starts

-- the improved schedule: the makespan can fall no oftener than it has periods
unfoldable pub improved : Project → List ℕ → List ℕ
improved project starts = improved_within project (makespan project starts) starts
