-- The lines that tell how far a book has come.
use Rattle.std.specs.Prelude.{◌≡◌, ℕ, ◌≤◌, List, ◌++◌, length, All, codes, decimal}
use Rattle.std.specs.List.{AllPairs, flat_map}

-- c of n positions are booked
abbrev pub report_line : ℕ → ℕ → List ℕ
report_line n c = codes "booked " ++ decimal c ++ codes " of " ++ decimal n ++ codes "\n"

-- one line for each count
abbrev pub report_lines : ℕ → List ℕ → List ℕ
report_lines n counts = flat_map (report_line n) counts

-- so many counts of at most n bookings, none below one before it
pub record AreCounts (n times : ℕ) (counts : List ℕ) : Type 0 where
  pub many : length counts ≡ times
  pub within : All (λ c. c ≤ n) counts
  pub rising : AllPairs (λ a b. a ≤ b) counts
