-- Numbers as values of options.
use Rattle.std.specs.Prelude.{ℕ, ◌&&◌, List, length, Option, None, Some, nat_le, if◌then◌else◌}
use Rattle.std.specs.Str.{all_ascii_digits}
use Rattle.std.specs.Str.Parse.{digits_value}

-- the number of 1 to 20 digits, leading zeros allowed, where it lies in the range
abbrev pub number_in : List ℕ → ℕ → ℕ → Option ℕ
number_in text least greatest =
    if nat_le 1 (length text) && nat_le (length text) 20 && all_ascii_digits text
    && nat_le least (digits_value 10 text) && nat_le (digits_value 10 text) greatest
    then Some (digits_value 10 text) else None
