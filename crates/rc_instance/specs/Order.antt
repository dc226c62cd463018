-- Orders of the activities, and cycles.
use Rattle.std.specs.Prelude.{◌≡◌, ◌≢◌, ℕ, ◌+◌, ◌<◌, List, length, take, slice_index, All, AllPairs, Contains}
use Rattle.rc_instance.specs.Project.{Project, activity_count, IsActivity, Precedes}

-- a feasible list: it names each activity once, after all its direct predecessors
pub record IsFeasibleList (project : Project) (order : List ℕ) : Type 0 where
  pub count : length order ≡ activity_count project
  pub activities : All (IsActivity project) order
  pub once : AllPairs (λ a b. a ≢ b) order
  pub after : (place a : ℕ) → place < length order → IsActivity project a
      → Precedes project a (slice_index order place) → Contains (take place order) a

-- a cycle: activities of which each precedes the next directly, and the last the first
pub record IsCycle (project : Project) (ring : List ℕ) : Type 0 where
  pub some : 0 < length ring
  pub activities : All (IsActivity project) ring
  pub next : (place : ℕ) → place + 1 < length ring → Precedes project (slice_index ring place) (slice_index ring (place + 1))
  pub closes : (place : ℕ) → place + 1 ≡ length ring → Precedes project (slice_index ring place) (slice_index ring 0)
