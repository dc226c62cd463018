-- Numbers whose text does not fit 64 bits.
use Rattle.std.proofs.Common.{◌≡◌, ℕ, ◌<◌, ◌^◌, ◌&&◌, nat_le, Bool, true, false, cond, refl, inl, inr, List, length, None, Some, Result, Ok, Err, arith}
use Rattle.std.specs.Result.{result_ok}
use Rattle.std.specs.Str.{all_ascii_digits}
use Rattle.std.specs.Str.Parse.{digits_value, ParsesUnsigned}
use Rattle.std.proofs.lemmas.Bool.{cases_lt}
use Rattle.std.proofs.lemmas.Bool.Decides.{nat_tests}
use Rattle.std.proofs.lemmas.Str.Parse.{IsNumeralModel, numerals_by_value, tells_all_ascii_digits, parse_digits}
use Rattle.rcpsp_words.specs.Values.Number.{number_in}

-- the value of digits, as `parse` reads them
own : IsNumeralModel (λ ds. all_ascii_digits ds ≡ true) (digits_value 10)
own = numerals_by_value _ tells_all_ascii_digits

-- digits that do not parse are too many for the range
pub number_in-unparsed : {E : Type 0} (parsed : Result ℕ E) (text : List ℕ) (least greatest : ℕ)
    → greatest < 2 ^ 64
    → all_ascii_digits text ≡ true → 0 < length text → ParsesUnsigned 64 10 text parsed
    → result_ok parsed ≡ None
    → number_in text least greatest ≡ None
number_in-unparsed (Ok value) text least greatest small digits some parses none = absurd cc
number_in-unparsed (Err fault) text least greatest small digits some parses none =
    let unread = parse_digits own 64 text (Err fault) parses digits in
    beyond
    (nat_le 1 (length text) && nat_le (length text) 20 && all_ascii_digits text
    && nat_le least (digits_value 10 text)) (digits_value 10 text) greatest
    (absurd_le (digits_value 10 text) greatest small (λ low. unread (some, low)))
  where
    absurd_le : (value greatest : ℕ) → greatest < 2 ^ 64 → (value < 2 ^ 64 → ⊥) → greatest < value
    absurd_le value greatest small large =
        elim (cases_lt value (2 ^ 64)) [ inl low ↦ absurd (large low) | inr high ↦ omega arith ]

    beyond : (others : Bool) (value greatest : ℕ) → greatest < value
        → cond (others && nat_le value greatest) (Some value) None ≡ None
    beyond true value greatest above = grind (arith, nat_tests)
    beyond false value greatest above = refl
