-- A text as a list of lines, and what a line says.
use Rattle.std.specs.Prelude.{ℕ, suc, ◌+◌, ◌-◌, Bool, true, false, not, ◌||◌, ◌&&◌, ◌==◌, if◌then◌else◌, nat_lt, List, [], ◌∷◌, length, map, take, filter, slice_index, Option, None, Some}
use Rattle.std.specs.List.{list_all, list_any, position_or_len, before_first, after_first}
use Rattle.std.specs.Char.{is_ascii_digit, to_ascii_lowercase}
use Rattle.std.specs.Io.BufRead.{strip_last}
use Rattle.rc_edge.specs.Tokens.{is_white, Token, tokens_of}

-- a line without its end, and the offset of its first byte
pub record Line : Type 0 where
  pub text : List ℕ
  pub at : ℕ

-- LF alone ends a line
abbrev pub is_newline : ℕ → Bool
is_newline byte = byte == 10

-- how many bytes stand before the first LF, or all where there is none
abbrev pub line_len : List ℕ → ℕ
line_len bytes = position_or_len is_newline bytes

-- the first line: the bytes before the first LF without a CR just before it, or all where there is
-- no LF
unfoldable pub line_text : List ℕ → List ℕ
line_text bytes = if nat_lt (line_len bytes) (length bytes) then strip_last 13
    (take (line_len bytes) bytes) else bytes

-- the lines that begin in the bytes, of which the first has the offset `at`; `inside` says that a
-- line goes on there
unfoldable pub lines_from : Bool → ℕ → List ℕ → List Line
lines_from inside at [] = []
lines_from inside at (byte ∷ rest) =
    if inside then lines_from (not (is_newline byte)) (suc at) rest
    else record { text = line_text (byte ∷ rest); at = at } ∷ lines_from (not (is_newline byte))
    (suc at) rest

-- no byte but white space and this one
abbrev pub has_only : ℕ → List ℕ → Bool
has_only mark text = list_all (λ byte. is_white byte || byte == mark) text

-- a blank line, or a ruler: one or more tokens that are all of `*`, or all of `-`
unfoldable pub is_silent : Line → Bool
is_silent line = has_only 42 line.text || has_only 45 line.text

-- the lines that are neither blank nor rulers
abbrev pub spoken : List Line → List Line
spoken lines = filter (λ line. not (is_silent line)) lines

-- the lines of a text that are neither blank nor rulers, in order
abbrev pub lines_of : List ℕ → List Line
lines_of bytes = spoken (lines_from false 0 bytes)

-- the colon ends the key of a line
abbrev pub is_colon : ℕ → Bool
is_colon byte = byte == 58

abbrev pub has_colon : Line → Bool
has_colon line = list_any is_colon line.text

-- the key of these bytes: what stands before the first colon, or all, in small letters and without
-- white space
abbrev pub key_in : List ℕ → List ℕ
key_in text = map to_ascii_lowercase (filter (λ byte. not (is_white byte))
    (before_first is_colon text))

-- whether a key begins with a word
unfoldable pub begins_with : List ℕ → List ℕ → Bool
begins_with [] key = true
begins_with (letter ∷ word) [] = false
begins_with (letter ∷ word) (first ∷ key) = letter == first && begins_with word key

-- whether the key of a line begins with a word
unfoldable pub says : List ℕ → Line → Bool
says word line = begins_with word (key_in line.text)

-- how many white bytes stand before the first token of a line
abbrev pub indent : List ℕ → ℕ
indent text = position_or_len (λ byte. not (is_white byte)) text

-- the offset of the first token of a line that has one
unfoldable pub first_at : Line → ℕ
first_at line = line.at + indent line.text

-- whether the first token of a line begins with a digit
unfoldable pub begins_with_digit : Line → Bool
begins_with_digit line = is_ascii_digit (slice_index line.text (indent line.text))

-- a token of a part of the text, which begins at an offset
abbrev pub moved : ℕ → Token → Token
moved from token = record { text = token.text; at = from + token.at }

-- the tokens of a line, with their offsets in the text
unfoldable pub tokens_in : Line → List Token
tokens_in line = map (moved line.at) (tokens_of line.text)

-- what stands after the first colon
abbrev pub after_colon : Line → List ℕ
after_colon line = after_first is_colon line.text

-- the tokens after the first colon, with their offsets in the text
unfoldable pub values_in : Line → List Token
values_in line = map (moved (line.at + (length line.text - length (after_colon line))))
    (tokens_of (after_colon line))

-- the first token, if there is one
abbrev pub first_of : List Token → Option Token
first_of [] = None
first_of (token ∷ tokens) = Some token

-- the offset just past the last byte of a line
abbrev pub line_end : Line → ℕ
line_end line = line.at + length line.text
