-- Which activities follow another one, directly or through others.
use Rattle.std.specs.Prelude.{◌≡◌, ℕ, zero, suc, ◌+◌, ◌-◌, ◌/◌, ◌%◌, ◌||◌, Bool, List, [], ◌∷◌, length, slice_index, slice_index_or, nat_eq}
use Rattle.std.specs.List.{filter, list_any}
use Rattle.std.specs.Int.{bit_at}
use Rattle.rc_instance.specs.Lists.{names, numbers}
use Rattle.rc_instance.specs.Project.{Project, activity_count, IsActivity, precedes, Precedes, successors_of}

-- a chain of direct precedence from a to b; between them are these activities, from b back to a
abbrev pub Leads : Project → ℕ → List ℕ → ℕ → Type 0
Leads project a [] b = Precedes project a b
Leads project a (c ∷ between) b = Leads project a between c × Precedes project c b

-- b follows a, directly or through others
pub record Follows (project : Project) (a b : ℕ) : Type 0 where
  pub between : List ℕ
  pub chain : Leads project a between b

-- the numbers that a list names, with their direct successors, in rising order
abbrev pub with_successors : Project → List ℕ → List ℕ
with_successors project known =
    filter (λ b. names known b || list_any (λ a. precedes project a b) known)
    (numbers (activity_count project))

-- what follows a through at most so many others
unfoldable pub followers_through : Project → ℕ → ℕ → List ℕ
followers_through project zero a = successors_of project a
followers_through project (suc most) a = with_successors project (followers_through project most a)

-- all that follows a, in rising order: no chain is longer than there are activities
unfoldable pub followers : Project → ℕ → List ℕ
followers project a = followers_through project (activity_count project) a

-- how many activities follow a
abbrev pub all_successors : Project → ℕ → ℕ
all_successors project a = length (followers project a)

-- whether a set of numbers, a bit for each in words of 64, has number n
unfoldable pub has_bit : List ℕ → ℕ → Bool
has_bit words n = nat_eq (bit_at (slice_index words (n / 64)) (n % 64)) 1

-- the words of a table's set for activity a
abbrev pub set_of : List (List ℕ) → ℕ → List ℕ
set_of sets a = slice_index_or sets (a - 1) []

-- the words hold the given numbers, and what the sets of these hold
pub record IsGathered (width : ℕ) (sets : List (List ℕ)) (given words : List ℕ) : Type 0 where
  pub count : length words ≡ width
  pub at : (b : ℕ) → has_bit words b ≡ list_any (λ s. nat_eq s b || has_bit (set_of sets s) b) given

-- how many words hold a bit for each activity
abbrev pub set_width : Project → ℕ
set_width project = activity_count project / 64 + 1

-- the words hold the followers of a
pub record HoldsFollowers (project : Project) (a : ℕ) (words : List ℕ) : Type 0 where
  pub count : length words ≡ set_width project
  pub at : (b : ℕ) → IsActivity project b → has_bit words b ≡ names (followers project a) b

-- there is a set for each activity, and it holds its followers
pub record HoldFollowers (project : Project) (sets : List (List ℕ)) : Type 0 where
  pub count : length sets ≡ activity_count project
  pub at : (a : ℕ) → IsActivity project a → HoldsFollowers project a (set_of sets a)
