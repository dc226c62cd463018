-- Lists by repeated choice among the activities that may be listed next.
use Rattle.std.specs.Prelude.{ℕ, zero, suc, Bool, ◌&&◌, not, List, [], ◌∷◌, ◌++◌}
use Rattle.std.specs.List.{filter, list_all}
use Rattle.rc_instance.specs.Lists.{names, numbers, first_from}
use Rattle.rc_instance.specs.Project.{Project, activity_count}
use Rattle.activity_net.specs.Network.{predecessors_of}

-- whether an activity may be listed next: it is not listed, and all its direct predecessors are
unfoldable pub is_eligible : Project → List ℕ → ℕ → Bool
is_eligible project listed a =
    not (names listed a) && list_all (names listed) (predecessors_of project a)

-- the activities that may be listed next, in rising order
unfoldable pub eligible : Project → List ℕ → List ℕ
eligible project listed = filter (is_eligible project listed) (numbers (activity_count project))

-- of the activities that may be listed next, the one of least number that is as good as each
unfoldable pub choice : Project → (ℕ → ℕ → Bool) → List ℕ → ℕ
choice project as_good listed =
    first_from (λ a. is_eligible project listed a && list_all (as_good a) (eligible project listed))
    1 (activity_count project)

-- what the first so many choices list
unfoldable pub choices : Project → (ℕ → ℕ → Bool) → ℕ → List ℕ
choices project as_good zero = []
choices project as_good (suc count) =
    let listed = choices project as_good count in listed ++ choice project as_good listed ∷ []
