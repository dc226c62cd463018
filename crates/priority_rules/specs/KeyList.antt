-- Lists by keys: the next activity is that of least key, then of least number.
use Rattle.std.specs.Prelude.{ℕ, ◌-◌, List, slice_index, nat_le}
use Rattle.rc_instance.specs.Project.{Project, activity_count}
use Rattle.priority_rules.specs.Choices.{choices}

-- the list that takes, again and again, the activity of least key among those that may be
-- listed, and of equal ones that of least number
unfoldable pub key_list : Project → (ℕ → ℕ) → List ℕ
key_list project key =
    choices project (λ a b. nat_le (key a) (key b)) (activity_count project)

-- the key that a table gives to an activity
abbrev pub key_in : List ℕ → ℕ → ℕ
key_in keys a = slice_index keys (a - 1)

-- the list that takes, again and again, the activity of least number among those that may be listed
unfoldable pub number_list : Project → List ℕ
number_list project = key_list project (λ a. a)

-- the list that takes, again and again, the activity of greatest value among those that may be
-- listed, and of equal ones that of least number
unfoldable pub greatest_list : Project → (ℕ → ℕ) → List ℕ
greatest_list project value =
    choices project (λ a b. nat_le (value b) (value a)) (activity_count project)
