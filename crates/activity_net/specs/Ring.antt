-- The cycle that is shown for a project whose precedence has one.
use Rattle.std.specs.Prelude.{ℕ, zero, suc, min, ◌+◌, Bool, List, [], ◌∷◌, ◌++◌, take, drop, reverse, slice_index, nat_eq, if◌then◌else◌, unwrap_or, Option}
use Rattle.std.specs.Option.{option_map}
use Rattle.std.specs.List.{filter, find, fold, list_any, position_or_len}
use Rattle.rc_instance.specs.Lists.{names, numbers}
use Rattle.rc_instance.specs.Project.{Project, activity_count, precedes}
use Rattle.activity_net.specs.Network.{predecessors_of}

-- a round takes away each activity of which no direct predecessor is left
abbrev pub after_round : Project → List ℕ → List ℕ
after_round project left = filter (λ b. list_any (λ a. precedes project a b) left) left

-- what is left after so many rounds
unfoldable pub left_after : Project → ℕ → List ℕ
left_after project zero = numbers (activity_count project)
left_after project (suc rounds) = after_round project (left_after project rounds)

-- what no round takes away: as many rounds as there are activities leave nothing else
unfoldable pub stuck : Project → List ℕ
stuck project = left_after project (activity_count project)

-- the first number of a list that is stuck, or 0 where none is
unfoldable pub first_stuck : Project → List ℕ → ℕ
first_stuck project list = unwrap_or (find (names (stuck project)) list) 0

-- the least stuck activity
abbrev pub least_stuck : Project → ℕ
least_stuck project = first_stuck project (numbers (activity_count project))

-- the least stuck direct predecessor of b
abbrev pub step_back : Project → ℕ → ℕ
step_back project b = first_stuck project (predecessors_of project b)

-- where a list names a number first, or its length
abbrev pub place_of : ℕ → List ℕ → ℕ
place_of n xs = position_or_len (λ x. nat_eq x n) xs

-- from b back, step by step, until a number comes twice: what was passed from its first place on
unfoldable pub way_back : Project → ℕ → List ℕ → ℕ → List ℕ
way_back project zero passed b = passed
way_back project (suc steps) passed b =
    if names passed b then drop (place_of b passed) passed
    else way_back project steps (passed ++ b ∷ []) (step_back project b)

-- the least number of a list that is not empty
abbrev pub least : List ℕ → ℕ
least xs = fold min (slice_index xs 0) xs

-- a list turned so that it begins with its least number
unfoldable pub from_least : List ℕ → List ℕ
from_least ring = drop (place_of (least ring) ring) ring ++ take (place_of (least ring) ring) ring

-- the cycle on the way back from the least stuck activity, in order of precedence, from its least
-- number
unfoldable pub shown_ring : Project → List ℕ
shown_ring project =
    from_least (reverse (way_back project (activity_count project + 1) [] (least_stuck project)))

-- the cycle that is shown, where the precedence has one
unfoldable pub shown_cycle : Project → Option (List ℕ)
shown_cycle project = option_map (λ _. shown_ring project)
    (find (names (stuck project)) (numbers (activity_count project)))
