-- What is left of a text while it is read: the tokens of the present line, and the lines after it.
use Rattle.std.specs.Prelude.{◌≡◌, ℕ, List, [], ◌∷◌, length, Option, None, Some}
use Rattle.std.specs.Option.{option_and_then}
use Rattle.rc_edge.specs.Tokens.{Token}
use Rattle.psplib_read.specs.Lines.{Line, lines_of, tokens_in}

-- blank lines and rulers are never left; `size` is the length of the whole text
pub record Left : Type 0 where
  pub size : ℕ
  pub tokens : List Token
  pub lines : List Line

-- a whole text, before its first line
abbrev pub whole : List ℕ → Left
whole bytes = record { size = length bytes; tokens = []; lines = lines_of bytes }

-- the next line, with all of its tokens left, and what is left of the present line passed over
abbrev pub line_in : Left → List Line → Option (Line × Left)
line_in left [] = None
line_in left (line ∷ lines) = Some (line, record left { tokens = tokens_in line; lines = lines })

unfoldable pub next_line : Left → Option (Line × Left)
next_line left = line_in left left.lines

-- the next token of the present line
abbrev pub token_in : Left → List Token → Option (Token × Left)
token_in left [] = None
token_in left (token ∷ tokens) = Some (token, record left { tokens = tokens })

unfoldable pub next_in_line : Left → Option (Token × Left)
next_in_line left = token_in left left.tokens

-- the next token: of the present line, or else the first of the next
abbrev pub token_or_next : Left → Option (Token × Left) → Option (Token × Left)
token_or_next left None = option_and_then (λ next. next_in_line next.1) (next_line left)
token_or_next left (Some next) = Some next

unfoldable pub next_token : Left → Option (Token × Left)
next_token left = token_or_next left (next_in_line left)

-- the rest of the present line passed over
unfoldable pub past_line : Left → Left
past_line left = record left { tokens = [] }

-- what a search found is what the definition says
abbrev pub Finds : {X Y : Type 0} → (X → Y) → Option X → Option Y → Type 0
Finds view None found = found ≡ None
Finds view (Some x) found = found ≡ Some (view x)
