-- Which activity moves next in a backward pass.
use Rattle.std.specs.Prelude.{◌≡◌, ℕ, ◌<◌, ◌≤◌, ◌⊎◌, true, false, List}
use Rattle.rc_instance.specs.Project.{Project, IsActivity}
use Rattle.serial_plain.specs.Shown.{finish_at}
use Rattle.fwd_back.specs.Backward.{may_move}

-- one activity ends before another, or at the same time and has no greater number
abbrev pub EndsFirst : Project → List ℕ → ℕ → ℕ → Type 0
EndsFirst project starts b a =
    (finish_at project starts b < finish_at project starts a)
    ⊎ ((finish_at project starts b ≡ finish_at project starts a) × (b ≤ a))

-- of the activities up to a number that may move next, the one that ends last, then that of
-- greatest number
pub record IsNextMoved (project : Project) (starts moved : List ℕ) (upto a : ℕ) : Type 0 where
  pub activity : IsActivity project a
  pub within : a ≤ upto
  pub may : may_move project moved a ≡ true
  pub last : (b : ℕ) → IsActivity project b → b ≤ upto → may_move project moved b ≡ true
      → EndsFirst project starts b a

-- no activity up to a number may move next
pub record NoneMoves (project : Project) (moved : List ℕ) (upto : ℕ) : Type 0 where
  pub none : (a : ℕ) → IsActivity project a → a ≤ upto → may_move project moved a ≡ false
