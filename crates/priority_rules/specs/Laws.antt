-- The main laws, each over all projects.
use Rattle.std.specs.Prelude.{◌≡◌, ℕ, ◌<◌}
use Rattle.rc_instance.specs.Lists.{numbers}
use Rattle.rc_instance.specs.Project.{Project, activity_count, IsActivity, Precedes}
use Rattle.priority_rules.specs.KeyList.{number_list}

-- where each successor has a number above its activity's, the list by number is 1, 2 and so on
abbrev pub ListByNumberIsRising : Type 0
ListByNumberIsRising = (project : Project)
    → ((a b : ℕ) → IsActivity project a → IsActivity project b → Precedes project a b → a < b)
    → number_list project ≡ numbers (activity_count project)
