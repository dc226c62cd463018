-- What a cursor shows of what is left, at its moves.
use Rattle.std.proofs.Common.{◌≡◌, ℕ, ◌+◌, ◌-◌, List, [], ◌∷◌, length, map, None, Some, refl, sym, ap, ◌∙◌, arith}
use Rattle.std.proofs.lemmas.List.{drop_all}
use Rattle.rc_edge.specs.Tokens.{Token, tokens_from, tokens_of, tokens_after}
use Rattle.rc_edge.proofs.TokenLaws.{tokens_after_is, tokens_after_start}
use Rattle.psplib_read.specs.Lines.{Line, moved, after_colon, values_in, first_of, tokens_in}
use Rattle.psplib_read.specs.Left.{Left, next_line}

-- no token begins past the end
pub none_after : (bytes : List ℕ) → tokens_after bytes (length bytes) ≡ []
unfolding tokens_from
none_after bytes =
    let none = drop_all (length bytes) bytes (omega arith) in
    tokens_after_is bytes (length bytes) (omega arith) ∙ rw none refl

-- the tokens of a line, from its start on
tokens_at_start : (text : List ℕ) (at : ℕ) → tokens_in (record { text = text; at = at })
    ≡ map (moved at) (tokens_after text 0)
unfolding tokens_in
tokens_at_start text at = ap (map (moved at)) (sym (tokens_after_start text))

-- the next line, where there is one
pub line_comes : (left : Left) (line : Line) (text : List ℕ) (at size : ℕ) (lines : List Line)
    → left.size ≡ size → left.lines ≡ line ∷ lines
    → record { text = text; at = at } ≡ line
    → next_line left ≡ Some
    (line, record { size = size; tokens = map (moved at) (tokens_after text 0); lines = lines })
unfolding next_line
line_comes left line text at size lines size_is lines_is line_is =
    let tokens : tokens_in line ≡ map (moved at) (tokens_after text 0) = ap tokens_in (sym line_is)
    ∙ tokens_at_start text at in
    rw (lines_is, size_is, tokens) refl

-- the first token after the colon, where there is one and where there is none
pub value_missing : (line : Line) (rest : List ℕ) → rest ≡ after_colon line
    → tokens_after rest 0 ≡ []
    → None ≡ first_of (values_in line)
unfolding values_in
value_missing line rest rest_is none =
    let tokens : tokens_of (after_colon line) ≡ [] = ap tokens_of (sym rest_is)
    ∙ sym (tokens_after_start rest) ∙ none in
    rw tokens refl

pub value_comes : (line : Line) (rest : List ℕ) (from : ℕ) (token : Token) (tokens : List Token)
    → rest ≡ after_colon line
    → tokens_after rest 0 ≡ token ∷ tokens → from ≡ line.at + (length line.text - length rest)
    → Some (moved from token) ≡ first_of (values_in line)
unfolding values_in
value_comes line rest from token tokens rest_is some from_is =
    let found : tokens_of (after_colon line) ≡ token ∷ tokens = ap tokens_of (sym rest_is)
    ∙ sym (tokens_after_start rest) ∙ some in
    rw (found, ← rest_is, from_is) refl
