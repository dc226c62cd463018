-- What is written of an instance, as loops come along its numbers.
use Rattle.std.proofs.Common.{◌≡◌, ℕ, ◌+◌, ◌-◌, ◌≤◌, List, [], ◌∷◌, ◌++◌, map, ◌∙◌, arith, append_assoc}
use Rattle.std.specs.List.{flat_map}
use Rattle.std.proofs.lemmas.List.{flat_map_more}
use Rattle.rc_instance.specs.Lists.{numbers}
use Rattle.rc_instance.specs.Project.{Project, activity_count, resource_count}
use Rattle.rc_edge.proofs.NumberedLaws.{map-numbers_more}
use Rattle.patterson_read.specs.Written.{line, activity_numbers, rcp_lines, rcp_text}

-- the lines before an activity
abbrev pub lines_before : Project → ℕ → List ℕ
lines_before project a =
    line (activity_count project ∷ resource_count project ∷ []) ++ line project.capacities
    ++ flat_map line (map (activity_numbers project) (numbers (a - 1)))

-- those before the next one are these and its own line
pub lines_more : (project : Project) (a : ℕ) → 1 ≤ a
    → lines_before project a ++ line (activity_numbers project a) ≡ lines_before project (a + 1)
lines_more project a some =
    rw (map-numbers_more (activity_numbers project) a some)
    (flat_map_more line _ (map (activity_numbers project) (numbers (a - 1)))
    (activity_numbers project a))

-- after the last activity they are the whole text
pub lines_written : (project : Project) (a : ℕ) (text : List ℕ) → a ≡ activity_count project + 1
    → text ≡ lines_before project a → text ≡ rcp_text project
unfolding rcp_text rcp_lines
lines_written project a text past written =
    let all : a - 1 ≡ activity_count project = omega arith in
    written ∙ rw all (append_assoc (line (activity_count project ∷ resource_count project ∷ []))
    (line project.capacities)
    (flat_map line (map (activity_numbers project) (numbers (activity_count project)))))
