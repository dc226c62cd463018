-- What the tables of a choice in progress keep.
use Rattle.std.specs.Prelude.{◌≡◌, ◌≢◌, ℕ, ◌+◌, ◌-◌, ◌*◌, ◌^◌, ◌<◌, ◌≤◌, ◌⊎◌, true, not, List, slice_index, All, AllPairs, count_by}
use Rattle.rc_instance.specs.Lists.{names, IsUpTo}
use Rattle.rc_instance.specs.Project.{Project, IsActivity}
use Rattle.activity_net.specs.Network.{predecessors_of}
use Rattle.priority_rules.specs.KeyList.{key_in}

-- how many direct predecessors of an activity are not listed
unfoldable pub missing : Project → List ℕ → ℕ → ℕ
missing project listed a = count_by (λ p. not (names listed p)) (predecessors_of project a)

-- each activity waits for its direct predecessors that are not listed
pub record IsWaiting (project : Project) (listed waiting : List ℕ) : Type 0 where
  pub at : (a : ℕ) → IsActivity project a → slice_index waiting (a - 1) ≡ missing project listed a

-- those of the numbers from 1 to n that wait for nothing, each once
pub record AreFree (n : ℕ) (waiting free : List ℕ) : Type 0 where
  pub all : (a : ℕ) → IsUpTo n a → slice_index waiting (a - 1) ≡ 0 → names free a ≡ true
  pub within : All (IsUpTo n) free
  pub idle : All (λ a. slice_index waiting (a - 1) ≡ 0) free
  pub once : AllPairs (λ a b. a ≢ b) free

-- one number goes before another by their keys, or has an equal key and is no greater
abbrev pub GoesFirst : (ℕ → ℕ) → ℕ → ℕ → Type 0
GoesFirst key a b = (key a < key b) ⊎ ((key a ≡ key b) × (a ≤ b))

-- the rank of a number of 32 bits: by its key, and among equal keys by itself
abbrev pub rank_in : List ℕ → ℕ → ℕ
rank_in keys a = key_in keys a * 2 ^ 32 + a

-- the first so many numbers of a pile have falling rank: the last of them goes first
pub record IsPile (keys pile : List ℕ) (count : ℕ) : Type 0 where
  pub falling : (i j : ℕ) → i < j → j < count
      → rank_in keys (slice_index pile j) ≤ rank_in keys (slice_index pile i)
