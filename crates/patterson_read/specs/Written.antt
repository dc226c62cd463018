-- The `.rcp` text that is written of an instance, byte for byte: lines of numbers with one space
-- between them. It has nothing of a calendar.
use Rattle.std.specs.Prelude.{ℕ, List, [], ◌∷◌, ◌++◌, length, map, codes}
use Rattle.std.specs.List.{flat_map}
use Rattle.std.specs.Fmt.{decimal}
use Rattle.rc_instance.specs.Lists.{numbers}
use Rattle.rc_instance.specs.Project.{Project, activity_count, resource_count, duration, successors_of}
use Rattle.rc_edge.specs.Written.{demands_of}

-- a number in decimal digits, with a space before it
abbrev pub spaced : ℕ → List ℕ
spaced number = codes " " ++ decimal number

-- a line of numbers, with one space between them
unfoldable pub line : List ℕ → List ℕ
line [] = codes "\n"
line (first ∷ others) = decimal first ++ flat_map spaced others ++ codes "\n"

-- an activity: its duration, its demands, how many direct successors it has, and these in rising
-- order
unfoldable pub activity_numbers : Project → ℕ → List ℕ
activity_numbers project a =
    duration project a ∷ demands_of project a
    ++ length (successors_of project a) ∷ successors_of project a

-- the numbers, a list for each line: how many activities and resources there are, the capacities,
-- and each activity
unfoldable pub rcp_lines : Project → List (List ℕ)
rcp_lines project =
    (activity_count project ∷ resource_count project ∷ []) ∷ project.capacities
    ∷ map (activity_numbers project) (numbers (activity_count project))

-- the text of an instance
unfoldable pub rcp_text : Project → List ℕ
rcp_text project = flat_map line (rcp_lines project)
