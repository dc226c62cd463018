-- Finishes of a worked schedule, computed from the definitions.
use Rattle.std.proofs.Common.{◌≡◌, ℕ, List, [], ◌∷◌, refl}
use Rattle.rc_instance.specs.Project.{Project, duration, precedes, successors_of}
use Rattle.rc_instance.specs.Schedule.{start_at}
use Rattle.activity_net.specs.Network.{predecessors_of}
use Rattle.serial_plain.specs.Shown.{last_finish_of}

-- six activities, one resource of capacity 2, and the schedule of their list by number
six : Project
six = record {
  capacities = 2 ∷ [];
  durations = 0 ∷ 3 ∷ 2 ∷ 2 ∷ 1 ∷ 0 ∷ [];
  demands = 0 ∷ 2 ∷ 1 ∷ 1 ∷ 1 ∷ 0 ∷ [];
  successors = (2 ∷ 3 ∷ 4 ∷ []) ∷ (5 ∷ []) ∷ (6 ∷ []) ∷ (6 ∷ []) ∷ (6 ∷ []) ∷ [] ∷ [];
  changes = [];
}

starts : List ℕ
starts = 0 ∷ 0 ∷ 3 ∷ 3 ∷ 5 ∷ 6 ∷ []

last_before_the_end : last_finish_of six starts (predecessors_of six 6) ≡ 6
unfolding six starts start_at duration predecessors_of precedes successors_of
last_before_the_end = refl

last_before_the_fifth : last_finish_of six starts (predecessors_of six 5) ≡ 3
unfolding six starts start_at duration predecessors_of precedes successors_of
last_before_the_fifth = refl

last_before_the_first : last_finish_of six starts (predecessors_of six 1) ≡ 0
unfolding six starts start_at duration predecessors_of precedes successors_of
last_before_the_first = refl
