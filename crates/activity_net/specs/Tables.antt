-- Tables with a place for each activity: that of activity a is place a - 1.
use Rattle.std.specs.Prelude.{◌≡◌, ℕ, ◌+◌, ◌-◌, ◌≤◌, Bool, false, not, List, [], ◌∷◌, ◌++◌, length, map, slice_index, slice_index_or, if◌then◌else◌, Vec}
use Rattle.std.specs.declared.alloc.Global.{Global}
use Rattle.rc_instance.specs.Lists.{names}

-- the lists that vectors hold
abbrev pub lists_in : List (Vec ℕ Global) → List (List ℕ)
lists_in vectors = map (λ (vector : Vec ℕ Global). vector.items) vectors

-- how long they are
abbrev pub lengths_in : List (Vec ℕ Global) → List ℕ
lengths_in vectors = map (λ (vector : Vec ℕ Global). length vector.items) vectors

-- n marks tell which of the numbers from 1 to n a list names
pub record Shows (n : ℕ) (marks : List Bool) (list : List ℕ) : Type 0 where
  pub count : length marks ≡ n
  pub at : (a : ℕ) → 1 ≤ a → a ≤ n → slice_index_or marks (a - 1) false ≡ names list a

-- whether activity a has no mark
abbrev pub is_unmarked : List Bool → ℕ → Bool
is_unmarked marks a = not (slice_index_or marks (a - 1) false)

-- the lists of the successors of a have a at their end, the others are as they were
pub record IsListedUnder (a : ℕ) (successors : List ℕ) (before after : List (List ℕ)) : Type 0 where
  pub at : (b : ℕ) → 1 ≤ b → b ≤ length before
      → slice_index_or after (b - 1) [] ≡ slice_index_or before (b - 1) []
      ++ (if names successors b then a ∷ [] else [])

-- activity a is not marked, and waits for no other one
pub record IsFree (waiting : List ℕ) (marks : List Bool) (a : ℕ) : Type 0 where
  pub within : (1 ≤ a) × (a ≤ length marks)
  pub unmarked : slice_index_or marks (a - 1) false ≡ false
  pub free : slice_index waiting (a - 1) ≡ 0

-- each successor waits for one activity less, the others for as many as before
pub record IsReleased (successors before after : List ℕ) : Type 0 where
  pub at : (b : ℕ) → 1 ≤ b → b ≤ length before
      → slice_index after (b - 1) + (if names successors b then 1 else 0)
      ≡ slice_index before (b - 1)
