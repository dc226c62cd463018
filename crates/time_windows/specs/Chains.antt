-- Chains of direct precedence.
use Rattle.std.specs.Prelude.{ℕ, ◌+◌, ◌<◌, List, length, slice_index, All}
use Rattle.std.specs.List.{sum_by}
use Rattle.rc_instance.specs.Project.{Project, IsActivity, Precedes, duration}

-- a chain: activities of which each precedes the next directly
pub record IsChain (project : Project) (chain : List ℕ) : Type 0 where
  pub activities : All (IsActivity project) chain
  pub next : (place : ℕ) → place + 1 < length chain
      → Precedes project (slice_index chain place) (slice_index chain (place + 1))

-- how long the activities of a chain take, one after the other
abbrev pub time_of : Project → List ℕ → ℕ
time_of project chain = sum_by (duration project) chain
