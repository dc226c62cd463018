-- Taking activities away one after another, each after all its direct predecessors.
use Rattle.std.specs.Prelude.{◌≡◌, ◌≢◌, ℕ, ◌<◌, Bool, false, List, length, take, slice_index, All, AllPairs, Contains}
use Rattle.rc_instance.specs.Lists.{names}
use Rattle.rc_instance.specs.Project.{Project, activity_count, IsActivity, Precedes}
use Rattle.activity_net.specs.Tables.{Shows}

-- the beginning of a feasible list: some activities, each once, after all its direct predecessors
pub record IsBeginning (project : Project) (order : List ℕ) : Type 0 where
  pub activities : All (IsActivity project) order
  pub once : AllPairs (λ a b. a ≢ b) order
  pub after : (place a : ℕ) → place < length order → IsActivity project a
      → Precedes project a (slice_index order place) → Contains (take place order) a

-- b has a direct predecessor that the order does not name
pub record IsHeldBack (project : Project) (order : List ℕ) (b : ℕ) : Type 0 where
  pub by : ℕ
  pub activity : IsActivity project by
  pub precedes : Precedes project by b
  pub left : names order by ≡ false

-- the order takes away all activities that can be taken: each other one is held back
pub record IsRemoval (project : Project) (order : List ℕ) (removed : List Bool) : Type 0 where
  pub beginning : IsBeginning project order
  pub shows : Shows (activity_count project) removed order
  pub held : (b : ℕ) → IsActivity project b → names order b ≡ false → IsHeldBack project order b
