-- What is left of a text while it is read: its tokens from a place on, whatever lines they stand
-- in.
use Rattle.std.specs.Prelude.{ℕ, List, [], ◌∷◌, length, Result, Ok, Err}
use Rattle.rc_edge.specs.declared.text_number.Number.{Number}
use Rattle.rc_edge.specs.declared.text_fault.TextFault.{TextFault}
use Rattle.rc_edge.specs.declared.text_fault.TextKind.TheVariants.{Trailing}
use Rattle.rc_edge.specs.Tokens.{Token, tokens_of}
use Rattle.rc_edge.specs.Grammar as grammar
use Rattle.rc_edge.specs.Grammar.{◌>>=◌}

-- `size` is the length of the whole text
pub record Left : Type 0 where
  pub size : ℕ
  pub tokens : List Token

-- a whole text
abbrev pub whole : List ℕ → Left
whole bytes = record { size = length bytes; tokens = tokens_of bytes }

-- a number, which the next token is
unfoldable pub number_due : Left → Result (Number × Left) TextFault
number_due left = do
  number ← grammar.number_due left.size left.tokens
  Ok (number.0, record left { tokens = number.1 })

-- nothing, at the end of the text
abbrev pub none_of : List Token → Result (Unit {0}) TextFault
none_of [] = Ok tt
none_of (token ∷ rest) = Err (record { kind = Trailing; at = token.at })

abbrev pub nothing : Left → Result (Unit {0}) TextFault
nothing left = none_of left.tokens
