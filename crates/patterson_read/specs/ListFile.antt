-- A list file: numbers alone, in order, with white space between them. The empty text is the empty
-- list.
use Rattle.std.specs.Prelude.{ℕ, List, [], ◌∷◌, Result, Ok}
use Rattle.rc_edge.specs.declared.text_fault.TextFault.{TextFault}
use Rattle.rc_edge.specs.declared.text_fault.TextKind.{TextKind}
use Rattle.rc_edge.specs.declared.text_fault.TextKind.TheVariants.{NotANumber, NumberTooLarge, Memory}
use Rattle.rc_edge.specs.Numbers.{number_of}
use Rattle.rc_edge.specs.Tokens.{Token, tokens_of}
use Rattle.rc_edge.specs.Grammar.{◌>>=◌, number_in}

-- the numbers that the tokens are, or the fault of the first that is none
unfoldable pub numbers_in : List Token → Result (List ℕ) TextFault
numbers_in [] = Ok []
numbers_in (token ∷ rest) = do
  number ← number_in token rest (number_of token.text)
  others ← numbers_in rest
  Ok (number.0.value ∷ others)

-- the list of the bytes of a list file, or the first fault
unfoldable pub read_list : List ℕ → Result (List ℕ) TextFault
read_list bytes = numbers_in (tokens_of bytes)

-- the kinds of the faults of list files, and want of memory
abbrev pub IsListKind : TextKind → Type 0
IsListKind NotANumber = Unit {0}
IsListKind NumberTooLarge = Unit {0}
IsListKind Memory = Unit {0}
IsListKind kind = ⊥
