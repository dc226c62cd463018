-- The number of rounds of a descent.
use Rattle.std.specs.Prelude.{ℕ, ◌&&◌, Option, None, Some, nat_le, if◌then◌else◌}

-- so many rounds as are said, from 1 to 1,000, where a number is given
abbrev pub rounds_of : Option ℕ → Option (Option ℕ)
rounds_of None = Some None
rounds_of (Some count) = if nat_le 1 count && nat_le count 1000 then Some (Some count) else None
