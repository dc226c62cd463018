-- The `.sm` text that is written of an instance, byte for byte. It has nothing of a calendar.
use Rattle.std.specs.Prelude.{ℕ, List, [], ◌∷◌, ◌++◌, length, map, replicate, codes}
use Rattle.std.specs.List.{flat_map}
use Rattle.std.specs.Fmt.{decimal}
use Rattle.rc_instance.specs.Lists.{numbers}
use Rattle.rc_instance.specs.Project.{Project, activity_count, resource_count, duration, duration_sum, successors_of}
use Rattle.rc_edge.specs.Written.{placed, demands_of}

-- a line with its end
abbrev pub ended : List ℕ → List ℕ
ended line = line ++ codes "\n"

-- 72 asterisks
abbrev pub ruler : List ℕ
ruler = replicate 72 42

-- a number after a space, right in so many places
abbrev pub column : ℕ → ℕ → List ℕ
column places number = codes " " ++ placed places number

-- how a resource is named
abbrev pub resource_name : ℕ → List ℕ
resource_name k = codes "  R " ++ decimal k

-- the names of all resources
unfoldable pub resource_names : Project → List ℕ
resource_names project = flat_map resource_name (numbers (resource_count project))

-- the line that tells how many jobs there are
abbrev pub jobs_line : ℕ → List ℕ
jobs_line count = codes "jobs (incl. supersource/sink ):  " ++ decimal count

-- the line that tells the sum of the durations
abbrev pub horizon_line : ℕ → List ℕ
horizon_line sum = codes "horizon                       :  " ++ decimal sum

-- the line that tells how many resources there are
abbrev pub renewable_line : ℕ → List ℕ
renewable_line count = codes "  - renewable                 :  " ++ decimal count ++ codes "   R"

-- one project, its jobs and resources
unfoldable pub preamble : Project → List (List ℕ)
preamble project =
    ruler
    ∷ codes "projects                      :  1"
    ∷ jobs_line (activity_count project)
    ∷ horizon_line (duration_sum project)
    ∷ codes "RESOURCES"
    ∷ renewable_line (resource_count project)
    ∷ codes "  - nonrenewable              :  0   N"
    ∷ codes "  - doubly constrained        :  0   D"
    ∷ []

-- a job, its one mode, how many successors it has, and these in rising order
unfoldable pub relation : Project → ℕ → List ℕ
relation project a =
    placed 4 a ++ column 8 1 ++ column 10 (length (successors_of project a))
    ++ flat_map (column 4) (successors_of project a)

-- the precedence relations, a line for each job
unfoldable pub relations : Project → List (List ℕ)
relations project =
    ruler
    ∷ codes "PRECEDENCE RELATIONS:"
    ∷ codes "jobnr.    #modes  #successors   successors"
    ∷ map (relation project) (numbers (activity_count project))

-- a job, its one mode, its duration, and its demands
unfoldable pub request : Project → ℕ → List ℕ
request project a =
    placed 4 a ++ column 5 1 ++ column 8 (duration project a)
    ++ flat_map (column 7) (demands_of project a)

-- the durations and demands, a line for each job
unfoldable pub requests : Project → List (List ℕ)
requests project =
    ruler
    ∷ codes "REQUESTS/DURATIONS:"
    ∷ (codes "jobnr. mode duration" ++ resource_names project)
    ∷ map (request project) (numbers (activity_count project))

-- the capacities, in one line
unfoldable pub availabilities : Project → List (List ℕ)
availabilities project =
    ruler
    ∷ codes "RESOURCEAVAILABILITIES:"
    ∷ resource_names project
    ∷ flat_map (column 7) project.capacities
    ∷ ruler
    ∷ []

-- all lines
abbrev pub sm_lines : Project → List (List ℕ)
sm_lines project = preamble project ++ relations project ++ requests project
    ++ availabilities project

-- the text of an instance
unfoldable pub sm_text : Project → List ℕ
sm_text project = flat_map ended (sm_lines project)
