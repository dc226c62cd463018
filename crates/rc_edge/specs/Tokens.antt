-- A text as a list of tokens, each with the offset of its first byte.
use Rattle.std.specs.Prelude.{ℕ, suc, Bool, true, false, ◌||◌, ◌==◌, if◌then◌else◌, nat_le, List, [], ◌∷◌, filter}
use Rattle.std.specs.List.{before_first}

-- white space: the space, tab, line feed, form feed, carriage return, and 26, an old mark of a file's end
unfoldable pub is_white : ℕ → Bool
is_white byte = byte == 32 || byte == 9 || byte == 10 || byte == 12 || byte == 13 || byte == 26

-- a longest run of other bytes, and the offset of its first byte
pub record Token : Type 0 where
  pub text : List ℕ
  pub at : ℕ

-- the tokens that begin in the bytes, of which the first has the offset `at`; `inside` says that
-- the byte before it belongs to a token
unfoldable pub tokens_from : Bool → ℕ → List ℕ → List Token
tokens_from inside at [] = []
tokens_from inside at (byte ∷ rest) =
    if is_white byte then tokens_from false (suc at) rest
    else if inside then tokens_from true (suc at) rest
    else record { text = before_first is_white (byte ∷ rest); at = at } ∷ tokens_from true (suc at) rest

-- the tokens of a text, in order
abbrev pub tokens_of : List ℕ → List Token
tokens_of bytes = tokens_from false 0 bytes

-- those of them that begin at an offset or after it
unfoldable pub tokens_after : List ℕ → ℕ → List Token
tokens_after bytes from = filter (λ token. nat_le from token.at) (tokens_of bytes)
