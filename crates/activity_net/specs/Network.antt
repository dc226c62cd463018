-- Networks of activities and lists of them, as contracts see them.
use Rattle.std.specs.Prelude.{ℕ, List, map}
use Rattle.std.specs.List.{filter}
use Rattle.rc_instance.specs.Lists.{numbers}
use Rattle.rc_instance.specs.Project.{Project, activity_count, precedes}

-- a project whose precedence has no cycle, which an order of its activities shows
pub record Network : Type 0 where
  pub project : Project
  pub order : List ℕ

-- an order of the activities of a network
pub record Listing : Type 0 where
  pub network : Network
  pub order : List ℕ

-- the direct predecessors of an activity, in rising order
unfoldable pub predecessors_of : Project → ℕ → List ℕ
predecessors_of project b = filter (λ a. precedes project a b) (numbers (activity_count project))

-- the direct predecessors of each activity, in order of number
abbrev pub predecessor_table : Project → List (List ℕ)
predecessor_table project = map (predecessors_of project) (numbers (activity_count project))
