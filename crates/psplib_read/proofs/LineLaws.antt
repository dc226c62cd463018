-- Lines of a text, one after the other.
use Rattle.std.proofs.Common.{◌≡◌, ℕ, suc, ◌+◌, ◌-◌, ◌<◌, ◌≤◌, Bool, true, false, List, [], ◌∷◌, length, take, drop, None, Some, refl, sym, ap, ◌∙◌, inl, inr, arith}
use Rattle.std.specs.List.{position, position_or_len}
use Rattle.std.specs.Io.BufRead.{strip_last}
use Rattle.std.proofs.lemmas.Bool.{cases_Bool, cases_lt, lt-ltb, le-ltb, cond-true, cond-false}
use Rattle.std.proofs.lemmas.List.{drop_all, length-drop}
use Rattle.psplib_read.specs.Lines.{Line, is_newline, line_len, line_text, lines_from, is_silent, spoken}

-- the line that begins with the bytes
abbrev pub line_at : ℕ → List ℕ → Line
line_at at bytes = record { text = line_text bytes; at = at }

-- a line goes on up to the first LF
line_goes_on : (at : ℕ) (bytes : List ℕ)
    → lines_from true at bytes ≡ lines_from false (at + line_len bytes + 1)
    (drop (line_len bytes + 1) bytes)
unfolding lines_from
line_goes_on at [] = refl
line_goes_on at (byte ∷ rest) =
    elim (cases_Bool (is_newline byte)) [
      | inl newline ↦
          let moved : at + 0 + 1 ≡ suc at = omega arith in
          rw (newline, moved) refl
      | inr other ↦
          let len = line_len rest in
          let one_more : 1 + len + 1 ≡ suc (len + 1) = omega arith in
          let moved : at + (1 + len) + 1 ≡ suc at + len + 1 = omega arith in
          rw (other, one_more, moved) (line_goes_on (suc at) rest)
    ]

-- past the end there is no line
no_lines : (at place : ℕ) → lines_from false at [] ≡ lines_from false place []
unfolding lines_from
no_lines at place = refl

-- the first line, and the lines after it; `rest` is what stands after its end
pub first_line : (at : ℕ) (bytes rest : List ℕ) → 0 < length bytes
    → rest ≡ drop (line_len bytes + 1) bytes
    → lines_from false at bytes ≡ line_at at bytes ∷ lines_from false
    (at + (length bytes - length rest)) rest
unfolding lines_from
first_line at [] rest some rest_is = absurd (omega arith)
first_line at (byte ∷ others) rest some rest_is =
    let bytes = byte ∷ others in
    ap (λ lines. line_at at bytes ∷ lines) (line_goes_on at bytes ∙ rw (← rest_is)
    (same_place at bytes rest rest_is))
  where
    same_place : (at : ℕ) (bytes rest : List ℕ) → rest ≡ drop (line_len bytes + 1) bytes
        → lines_from false (at + line_len bytes + 1) rest ≡ lines_from false
        (at + (length bytes - length rest)) rest
    same_place at bytes rest rest_is =
        elim (cases_lt (line_len bytes) (length bytes)) [
          | inl inside ↦
              let len : length rest ≡ length bytes - (line_len bytes + 1) = ap length rest_is
              ∙ length-drop (line_len bytes + 1) bytes in
              let moved : at + (length bytes - length rest) ≡ at + line_len bytes + 1 = omega
              (arith, len) in
              rw moved refl
          | inr past ↦
              let none : rest ≡ [] = rest_is ∙ drop_all (line_len bytes + 1) bytes (omega arith) in
              rw none (no_lines (at + line_len bytes + 1) (at + (length bytes - length rest)))
        ]

-- the text of the first line, where it has an end and where it has none
pub text_with_end : (bytes : List ℕ) → line_len bytes < length bytes
    → line_text bytes ≡ strip_last 13 (take (line_len bytes) bytes)
unfolding line_text
text_with_end bytes inside = cond-true _ _ _ (lt-ltb _ _ inside)

pub text_without_end : (bytes : List ℕ) → length bytes ≤ line_len bytes → line_text bytes ≡ bytes
unfolding line_text
text_without_end bytes past = cond-false _ _ _ (le-ltb _ _ past)

-- a line that is passed over, and one that is not
pub silent_passed : (line : Line) (lines : List Line) → is_silent line ≡ true
    → spoken (line ∷ lines) ≡ spoken lines
silent_passed line lines silent = rw silent refl

pub spoken_first : (line : Line) (lines : List Line) → is_silent line ≡ false
    → spoken (line ∷ lines) ≡ line ∷ spoken lines
spoken_first line lines said = rw said refl

-- the place of the first byte that passes, where there is one, and where there is none
pub place_found : (test : ℕ → Bool) (bytes : List ℕ) (place : ℕ) → Some place ≡ position test bytes
    → place ≡ position_or_len test bytes
place_found test bytes place found =
    elim (cases_lt (position_or_len test bytes) (length bytes)) [
      | inl inside ↦ let first = lt-ltb _ _ inside in some_is place (position_or_len test bytes)
          (found ∙ rw first refl)
      | inr past ↦ let none = le-ltb _ _ past in absurd (some_none place (found ∙ rw none refl))
    ]
  where
    some_is : (a b : ℕ) → Some a ≡ Some b → a ≡ b
    some_is a b e = cc

    some_none : (a : ℕ) → Some a ≡ None → ⊥
    some_none a e = cc

pub place_missing : (test : ℕ → Bool) (bytes : List ℕ) → None ≡ position test bytes
    → length bytes ≤ position_or_len test bytes
place_missing test bytes found =
    elim (cases_lt (position_or_len test bytes) (length bytes)) [
      | inl inside ↦ let first = lt-ltb _ _ inside in absurd
          (none_some (position_or_len test bytes) (found ∙ rw first refl))
      | inr past ↦ past
    ]
  where
    none_some : (a : ℕ) → None ≡ Some a → ⊥
    none_some a e = cc

-- one line was passed over or found, and what is left goes on behind it
pub line_passed : (at : ℕ) (bytes rest : List ℕ) (line : Line) (all : List Line) → 0 < length bytes
    → rest ≡ drop (line_len bytes + 1) bytes
    → line ≡ line_at at bytes → is_silent line ≡ true → spoken (lines_from false at bytes) ≡ all
    → spoken (lines_from false (at + (length bytes - length rest)) rest) ≡ all
line_passed at bytes rest line all some rest_is line_is silent so_far =
    let first = first_line at bytes rest some rest_is in
    let here : is_silent (line_at at bytes) ≡ true = rw (← line_is) silent in
    sym (silent_passed (line_at at bytes) (lines_from false (at + (length bytes - length rest))
    rest) here) ∙ sym (ap spoken first) ∙ so_far

pub line_found : (at : ℕ) (bytes rest : List ℕ) (line : Line) (all : List Line) → 0 < length bytes
    → rest ≡ drop (line_len bytes + 1) bytes
    → line ≡ line_at at bytes → is_silent line ≡ false → spoken (lines_from false at bytes) ≡ all
    → all ≡ line ∷ spoken (lines_from false (at + (length bytes - length rest)) rest)
line_found at bytes rest line all some rest_is line_is said so_far =
    let first = first_line at bytes rest some rest_is in
    let here : is_silent (line_at at bytes) ≡ false = rw (← line_is) said in
    let others = lines_from false (at + (length bytes - length rest)) rest in
    sym so_far ∙ ap spoken first ∙ spoken_first (line_at at bytes) others here
    ∙ ap (λ line. line ∷ spoken others) (sym line_is)

pub lines_end : (at : ℕ) (bytes : List ℕ) (all : List Line) → length bytes ≤ 0
    → spoken (lines_from false at bytes) ≡ all → all ≡ []
unfolding lines_from
lines_end at [] all none so_far = sym so_far
lines_end at (byte ∷ rest) all none so_far = absurd (omega arith)
