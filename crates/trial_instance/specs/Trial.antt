-- The instance that is made from a number: its words are drawn from the generator of the number, on
-- one fixed stream, first one for each resource and then a row of them for each activity but the
-- first and the last.
use Rattle.std.specs.Prelude.{ℕ, ◌+◌, ◌-◌, ◌*◌, ◌%◌, ◌||◌, ◌==◌, Bool, List, [], ◌∷◌, ◌++◌, map, take, slice_index, nat_eq, replicate, if◌then◌else◌}
use Rattle.std.specs.List.{filter, flat_map, range_with_len}
use Rattle.rc_instance.specs.Lists.{numbers}
use Rattle.rc_instance.specs.Parts.{made}
use Rattle.rc_instance.specs.Project.{Project}
use Rattle.key_sampling.specs.Samples.{generator_of, first_words}
use Rattle.trial_instance.specs.declared.trial.TheConstants.{STREAM}

-- the place of the first word of an activity: it has a word for its duration, one for each demand,
-- and two for predecessors
abbrev pub first_word : ℕ → ℕ → ℕ
first_word resources j = resources + (j - 2) * (resources + 3)

-- how many words there are
abbrev pub word_count : ℕ → ℕ → ℕ
word_count activities resources = first_word resources activities

abbrev pub trial_words : ℕ → ℕ → ℕ → List ℕ
trial_words number activities resources =
    first_words (word_count activities resources) (generator_of number STREAM)

-- all activities but the first and the last
abbrev pub inner : ℕ → List ℕ
inner activities = range_with_len 2 (activities - 2)

-- a capacity from 10 to 20
abbrev pub trial_capacity : ℕ → ℕ
trial_capacity word = 10 + word % 11

-- a duration from 1 to 10
abbrev pub trial_duration : ℕ → List ℕ → ℕ → ℕ
trial_duration resources words j = 1 + slice_index words (first_word resources j) % 10

-- for each resource a demand up to 10
abbrev pub trial_demands : ℕ → List ℕ → ℕ → List ℕ
trial_demands resources words j =
    map (λ k. slice_index words (first_word resources j + k) % 11) (range_with_len 1 resources)

-- the first or the second predecessor, an activity of lower number
abbrev pub trial_predecessor : ℕ → List ℕ → ℕ → ℕ → ℕ
trial_predecessor resources words j which =
    1 + slice_index words (first_word resources j + resources + which) % (j - 1)

-- whether activity a was drawn as a predecessor of activity j
unfoldable pub was_drawn : ℕ → List ℕ → ℕ → ℕ → Bool
was_drawn resources words a j =
    nat_eq (trial_predecessor resources words j 1) a
    || nat_eq (trial_predecessor resources words j 2) a

-- these, or the last activity where there are none, which alone has no successor
abbrev pub or_last : ℕ → ℕ → List ℕ → List ℕ
or_last activities a [] = if a == activities then [] else activities ∷ []
or_last activities a (j ∷ js) = j ∷ js

-- the successors of an activity
unfoldable pub trial_successors : ℕ → ℕ → List ℕ → ℕ → List ℕ
trial_successors activities resources words a =
    or_last activities a (filter (was_drawn resources words a) (inner activities))

-- the lists that the words give
abbrev pub capacities_of : ℕ → List ℕ → List ℕ
capacities_of resources words = map trial_capacity (take resources words)

abbrev pub durations_of : ℕ → ℕ → List ℕ → List ℕ
durations_of activities resources words =
    0 ∷ map (trial_duration resources words) (inner activities) ++ 0 ∷ []

abbrev pub demands_of : ℕ → ℕ → List ℕ → List ℕ
demands_of activities resources words =
    replicate resources 0 ++ flat_map (trial_demands resources words) (inner activities)
    ++ replicate resources 0

abbrev pub successor_lists_of : ℕ → ℕ → List ℕ → List (List ℕ)
successor_lists_of activities resources words =
    map (trial_successors activities resources words) (numbers activities)

-- the instance of the words
unfoldable pub project_of_words : ℕ → ℕ → List ℕ → Project
project_of_words activities resources words =
    made (capacities_of resources words) (durations_of activities resources words)
    (demands_of activities resources words) (successor_lists_of activities resources words)

-- the instance of the number
abbrev pub trial_project : ℕ → ℕ → ℕ → Project
trial_project number activities resources =
    project_of_words activities resources (trial_words number activities resources)
