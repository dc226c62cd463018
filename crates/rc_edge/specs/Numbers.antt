-- The number that a token is, in decimal digits.
use Rattle.std.specs.Prelude.{ℕ, Bool, ◌&&◌, if◌then◌else◌, nat_le, nat_lt, List, length, Result, Ok, Err}
use Rattle.std.specs.List.{list_all}
use Rattle.std.specs.Char.{is_ascii_digit}
use Rattle.std.specs.Str.Parse.{digits_value}
use Rattle.rc_edge.specs.declared.number.NumberFault.{NumberFault}
use Rattle.rc_edge.specs.declared.number.NumberFault.TheVariants.{NotANumber, NumberTooLarge}

-- one ASCII digit or more, and nothing else; leading zeros are allowed
abbrev pub is_numeral : List ℕ → Bool
is_numeral text = nat_lt 0 (length text) && list_all is_ascii_digit text

-- the number, which is below 2 to the power of 32
abbrev pub number_of : List ℕ → Result ℕ NumberFault
number_of text =
    if is_numeral text
    then (if nat_le (digits_value 10 text) 4294967295 then Ok (digits_value 10 text) else Err NumberTooLarge)
    else Err NotANumber
