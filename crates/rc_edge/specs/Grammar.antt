-- What the grammars of the texts are made of. A thing of a text is a function from the tokens that
-- are left to its value and the tokens after it, or to the first fault.
use Rattle.std.specs.Prelude.{ℕ, zero, suc, Bool, true, false, List, [], ◌∷◌, ◌++◌, Result, Ok, Err}
pub use Rattle.rc_instance.specs.Results.{◌>>=◌, Gives}
use Rattle.rc_instance.specs.Results.{GivesOr, StandsOr}
use Rattle.rc_edge.specs.declared.text_number.Number.{Number}
use Rattle.rc_edge.specs.declared.number.NumberFault.{NumberFault}
use Rattle.rc_edge.specs.declared.number.NumberFault.TheVariants as numbers
use Rattle.rc_edge.specs.declared.text_fault.TextFault.{TextFault}
use Rattle.rc_edge.specs.declared.text_fault.TextKind.{TextKind}
use Rattle.rc_edge.specs.declared.text_fault.TextKind.TheVariants.{NotANumber, NumberTooLarge, Ended, Memory}
use Rattle.rc_edge.specs.Tokens.{Token}
use Rattle.rc_edge.specs.Numbers.{number_of}

-- a fault of this kind at this offset, where the test holds
abbrev pub refuse_if : Bool → TextKind → ℕ → Result (Unit {0}) TextFault
refuse_if true kind at = Err (record { kind = kind; at = at })
refuse_if false kind at = Ok tt

-- the number of a token, or why there is none
abbrev pub number_in : Token → List Token → Result ℕ NumberFault → Result (Number × List Token) TextFault
number_in token rest (Ok value) = Ok (record { value = value; at = token.at }, rest)
number_in token rest (Err numbers.NotANumber) = Err (record { kind = NotANumber; at = token.at })
number_in token rest (Err numbers.NumberTooLarge) = Err (record { kind = NumberTooLarge; at = token.at })

-- a number, which the next token is; `size` is the length of the text
unfoldable pub number_due : ℕ → List Token → Result (Number × List Token) TextFault
number_due size [] = Err (record { kind = Ended; at = size })
number_due size (token ∷ rest) = number_in token rest (number_of token.text)

-- so many things more after those that were read; `one` reads one from what is left of the text,
-- and may look at those before it
unfoldable pub more : {X Left : Type 0} → (List X → Left → Result (X × Left) TextFault) → ℕ → List X → Left → Result (List X × Left) TextFault
more one zero found left = Ok (found, left)
more one (suc n) found left = do
  next ← one found left
  more one n (found ++ next.0 ∷ []) next.1

-- want of memory, as a reader answers it
abbrev pub out_of_memory : TextFault
out_of_memory = record { kind = Memory; at = 0 }

-- what a call that takes memory gave is what the grammar says, unless memory ran out
abbrev pub GivesOrMemory : {X Y : Type 0} → (X → Y) → Result X TextFault → Result Y TextFault → Type 0
GivesOrMemory view result read = GivesOr out_of_memory view result read

-- the same where a relation says what the call's value stands for
abbrev pub StandsOrMemory : {X Y : Type 0} → (X → Y → Type 0) → Result X TextFault → Result Y TextFault → Type 0
StandsOrMemory Stands result read = StandsOr out_of_memory Stands result read
