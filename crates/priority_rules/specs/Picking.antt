-- A list by keys that is made one activity after another.
use Rattle.std.specs.Prelude.{◌≡◌, ℕ, ◌+◌, ◌<◌, ◌≤◌, ◌++◌, List, length, take, slice_index}
use Rattle.rc_instance.specs.Project.{Project, activity_count, IsActivity}
use Rattle.rc_instance.specs.Calendar.{IsWithinLimits}
use Rattle.rc_instance.specs.Order.{IsFeasibleList}
use Rattle.priority_rules.specs.KeyList.{key_list, key_in}
use Rattle.priority_rules.specs.Choosing.{IsWaiting, AreFree, IsPile}

-- how many activities each one waits for, the pile of those that may be picked next, how much of it
-- they are, and how many are picked
pub record Picking : Type 0 where
  pub waiting : List ℕ
  pub pile : List ℕ
  pub free : ℕ
  pub picked : ℕ

-- the tables at hand, with how much of the pile is free and how many are picked
abbrev pub picking : List ℕ → List ℕ → ℕ → ℕ → Picking
picking waiting pile free picked = record {
  waiting = waiting;
  pile = pile;
  free = free;
  picked = picked;
}

-- both tables have a place for each activity
pub record HasRoom (project : Project) (picking : Picking) : Type 0 where
  pub waiting : length picking.waiting ≡ activity_count project
  pub pile : length picking.pile ≡ activity_count project

-- the picked activities: so many of the list by keys
abbrev pub picked_of : Project → List ℕ → Picking → List ℕ
picked_of project keys picking = take picking.picked (key_list project (key_in keys))

-- the first so many activities of the list by keys are picked
pub record HasPicked (project : Project) (keys : List ℕ) (picking : Picking) : Type 0 where
  pub room : HasRoom project picking
  pub limits : IsWithinLimits project
  pub feasible : IsFeasibleList project (key_list project (key_in keys))
  pub upto : picking.picked ≤ activity_count project
  pub waits : IsWaiting project (picked_of project keys picking) picking.waiting
  pub within : picking.free ≤ length picking.pile
  pub are_free : AreFree (activity_count project) picking.waiting
      (picked_of project keys picking ++ take picking.free picking.pile)
  pub falling : IsPile keys picking.pile picking.free

-- activity a was picked: the next one of the list by keys
pub record IsPick (project : Project) (keys : List ℕ) (before after : Picking) (a : ℕ) : Type 0 where
  pub left : before.picked < activity_count project
  pub activity : IsActivity project a
  pub next : a ≡ slice_index (key_list project (key_in keys)) before.picked
  pub count : after.picked ≡ before.picked + 1
