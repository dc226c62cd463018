-- The number of workers.
use Rattle.std.specs.Prelude.{ℕ, ◌&&◌, Option, None, Some, nat_le, unwrap_or, if◌then◌else◌}

-- so many workers as are said, from 1 to 64
abbrev pub workers_in : ℕ → Option ℕ
workers_in count = if nat_le 1 count && nat_le count 64 then Some count else None

-- so many workers, or 4 where no number is given
abbrev pub workers_of : Option ℕ → Option ℕ
workers_of number = workers_in (unwrap_or number 4)
