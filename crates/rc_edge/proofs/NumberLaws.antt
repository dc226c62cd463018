-- The number that digits write, one digit after the other.
use Rattle.std.proofs.Common.{◌≡◌, ℕ, ◌+◌, ◌-◌, ◌*◌, ◌^◌, ◌<◌, ◌≤◌, Bool, true, false, ◌&&◌, List, length, get_or, take, Ok, Err, refl, arith, inl, inr}
use Rattle.std.specs.Prelude.{nat_le, nat_lt}
use Rattle.std.specs.List.{list_all}
use Rattle.std.specs.Char.{is_ascii_digit, digit_value}
use Rattle.std.specs.Int.{IsInRange}
use Rattle.std.specs.Str.Parse.{digits_value}
use Rattle.std.proofs.lemmas.Bool.{cases_Bool, leb-true, le-leb, lt-leb}
use Rattle.std.proofs.lemmas.List.{take_all}
use Rattle.std.proofs.lemmas.List.Folds.{list_all_at}
use Rattle.std.proofs.lemmas.Int.Digits.{digits_value_more}
use Rattle.std.proofs.lemmas.Str.{digit_value_digit}
use Rattle.std.proofs.lemmas.Str.Parse.{digits_value-take-le}
use Rattle.rc_edge.specs.declared.number.NumberFault.TheVariants.{NumberTooLarge}
use Rattle.rc_edge.specs.Numbers.{is_numeral, number_of}

both : (a b : Bool) → (a && b) ≡ true → (a ≡ true) × (b ≡ true)
both true b e = (refl, e)
both false b e = absurd cc

digit_at : (token : List ℕ) (i : ℕ) → is_numeral token ≡ true → i < length token → is_ascii_digit (get_or token i 0) ≡ true
digit_at token i numeral inside =
    elim (cases_Bool (is_ascii_digit (get_or token i 0))) [
      | inl digit ↦ digit
      | inr other ↦
          let none : list_all is_ascii_digit token ≡ false = list_all_at is_ascii_digit token i 0 inside other in
          let all : list_all is_ascii_digit token ≡ true = (both (nat_lt 0 (length token)) (list_all is_ascii_digit token) numeral).1 in
          absurd cc
    ]

range : (c : ℕ) → is_ascii_digit c ≡ true → IsInRange 48 57 c
range c digit = let bounds = both (nat_le 48 c) (nat_le c 57) digit in (leb-true 48 c bounds.0, leb-true c 57 bounds.1)

-- a numeral with one digit more
pub digit_taken : (token : List ℕ) (i value digit : ℕ) → is_numeral token ≡ true → i < length token
    → value ≡ digits_value 10 (take i token) → digit ≡ get_or token i 0 - 48
    → value * 10 + digit ≡ digits_value 10 (take (i + 1) token)
digit_taken token i value digit numeral inside value_is digit_is =
    let here = digit_value_digit (get_or token i 0) (range _ (digit_at token i numeral inside)) in
    let digit_value_is : digit ≡ digit_value (get_or token i 0) = omega arith in
    rw (digits_value_more 10 token i inside, ← value_is, ← digit_value_is) refl

-- a number only grows with its digits
pub number_too_large : (token : List ℕ) (i : ℕ) → is_numeral token ≡ true → 4294967295 < digits_value 10 (take i token)
    → Err NumberTooLarge ≡ number_of token
number_too_large token i numeral large =
    let more = digits_value-take-le 10 token i (omega arith) in
    let above : 4294967295 < digits_value 10 token = omega (arith, more) in
    rw (numeral, lt-leb (digits_value 10 token) 4294967295 above) refl

pub number_read : (token : List ℕ) (i value : ℕ) → is_numeral token ≡ true → length token ≤ i
    → value ≡ digits_value 10 (take i token) → value < 2 ^ 32 → Ok value ≡ number_of token
number_read token i value numeral end value_is small =
    let whole = take_all i token end in
    let value_of : value ≡ digits_value 10 token = rw whole at value_is in
    rw (numeral, ← value_of, le-leb value 4294967295 (omega arith)) refl
