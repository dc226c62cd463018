-- Words on lists of numbers that the definitions of scheduling share.
use Rattle.std.specs.Prelude.{ℕ, zero, suc, max, ◌+◌, ◌≤◌, Bool, List, [], ◌∷◌, nat_eq, Option, None, Some, if◌then◌else◌, All}
use Rattle.std.specs.List.{list_any, range_with_len}
use Rattle.std.specs.List.Sorted.{IsStrictlyIncreasing}

-- the first value, or else the second
abbrev pub or_else : {X : Type 0} → Option X → Option X → Option X
or_else (Some x) other = Some x
or_else None other = other

-- the greatest number of a list, or 0 where it is empty
abbrev pub greatest : List ℕ → ℕ
greatest [] = 0
greatest (x ∷ xs) = max x (greatest xs)

-- whether the list names the number
abbrev pub names : List ℕ → ℕ → Bool
names xs n = list_any (λ x. nat_eq x n) xs

-- the numbers from 1 to n
abbrev pub numbers : ℕ → List ℕ
numbers n = range_with_len 1 n

-- a number from 1 to n
abbrev pub IsUpTo : ℕ → ℕ → Type 0
IsUpTo n x = (1 ≤ x) × (x ≤ n)

-- numbers from 1 to n, each above the one before
pub record IsRising (n : ℕ) (xs : List ℕ) : Type 0 where
  pub within : All (IsUpTo n) xs
  pub rising : IsStrictlyIncreasing xs

-- the first of n numbers from t on that passes, or t + n where none does
unfoldable pub first_from : (ℕ → Bool) → ℕ → ℕ → ℕ
first_from test t zero = t
first_from test t (suc n) = if test t then t else first_from test (t + 1) n

-- the last of the numbers below n that passes, or 0 where none does
unfoldable pub last_below : (ℕ → Bool) → ℕ → ℕ
last_below test zero = 0
last_below test (suc n) = if test n then n else last_below test n

-- the first value that the function has for a number of the list, if it has one
abbrev pub first_of : {X : Type 0} → (ℕ → Option X) → List ℕ → Option X
first_of value [] = None
first_of value (n ∷ ns) = or_else (value n) (first_of value ns)
