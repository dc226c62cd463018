-- How often a run tells how far it has come.
use Rattle.std.specs.Prelude.{ℕ, ◌&&◌, Option, None, Some, nat_le, if◌then◌else◌}
use Rattle.std.specs.Option.{option_map}

-- so often as is said, from 1 to 1,000 times
abbrev pub live_in : ℕ → Option ℕ
live_in times = if nat_le 1 times && nat_le times 1000 then Some times else None

-- so often, or not at all where no number is given
abbrev pub live_of : Option ℕ → Option (Option ℕ)
live_of None = Some None
live_of (Some times) = option_map Some (live_in times)
