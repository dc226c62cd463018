-- Earliest and latest starts, tails and the critical length: the times of longest chains
-- (the critical path method, Kelley and Walker 1959).
use Rattle.std.specs.Prelude.{◌≡◌, ℕ, zero, suc, ◌+◌, ◌-◌, ◌≤◌, List, [], ◌∷◌, ◌++◌, map}
use Rattle.rc_instance.specs.Lists.{greatest, numbers}
use Rattle.rc_instance.specs.Project.{Project, activity_count, duration, successors_of}
use Rattle.activity_net.specs.Network.{predecessors_of}
use Rattle.time_windows.specs.Chains.{IsChain, time_of}

-- t is the longest time of the chains that end just before activity a
pub record IsEarliest (project : Project) (a t : ℕ) : Type 0 where
  pub reached : (chain : List ℕ) × IsChain project (chain ++ a ∷ []) × (time_of project chain ≡ t)
  pub longest : (chain : List ℕ) → IsChain project (chain ++ a ∷ []) → time_of project chain ≤ t

-- t is the longest time of the chains that begin with activity a, its own time included
pub record IsTail (project : Project) (a t : ℕ) : Type 0 where
  pub reached : (rest : List ℕ) × IsChain project (a ∷ rest) × (time_of project (a ∷ rest) ≡ t)
  pub longest : (rest : List ℕ) → IsChain project (a ∷ rest) → time_of project (a ∷ rest) ≤ t

-- t is the longest time of all chains
pub record IsCritical (project : Project) (t : ℕ) : Type 0 where
  pub reached : (chain : List ℕ) × IsChain project chain × (time_of project chain ≡ t)
  pub longest : (chain : List ℕ) → IsChain project chain → time_of project chain ≤ t

-- the same times as they are computed: where the precedence has no cycle, they are those above

-- the longest time of the chains of at most so many activities that end just before a
unfoldable pub earliest_within : Project → ℕ → ℕ → ℕ
earliest_within project zero a = 0
earliest_within project (suc steps) a =
    greatest (map (λ p. earliest_within project steps p + duration project p)
    (predecessors_of project a))

-- the longest time of the chains that begin with a and go on for at most so many activities
unfoldable pub tail_within : Project → ℕ → ℕ → ℕ
tail_within project zero a = duration project a
tail_within project (suc steps) a =
    duration project a + greatest (map (tail_within project steps) (successors_of project a))

-- the earliest start of an activity, if capacities were unlimited
unfoldable pub earliest_of : Project → ℕ → ℕ
earliest_of project a = earliest_within project (activity_count project) a

-- the longest time from the start of an activity to the end of the project
unfoldable pub tail_of : Project → ℕ → ℕ
tail_of project a = tail_within project (activity_count project) a

-- the longest time of all chains: no schedule ends earlier
unfoldable pub critical_of : Project → ℕ
critical_of project = greatest (map (tail_of project) (numbers (activity_count project)))

-- the latest start of an activity, if the project is to end by the critical length
abbrev pub latest_of : Project → ℕ → ℕ
latest_of project a = critical_of project - tail_of project a
