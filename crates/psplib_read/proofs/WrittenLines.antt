-- The lines of a text that was written line by line.
use Rattle.std.proofs.Common.{◌≡◌, inl, inr, ℕ, suc, ◌+◌, ◌-◌, ◌<◌, Bool, true, false, not, ◌&&◌, ◌||◌, ◌==◌, List, [], ◌∷◌, ◌++◌, length, map, get_or, refl, ap, arith, append_assoc, cond}
use Rattle.std.specs.Prelude.{codes}
use Rattle.std.specs.List.{list_all, flat_map, filter}
use Rattle.std.specs.Io.BufRead.{strip_last}
use Rattle.std.proofs.lemmas.Bool.{and_parts, not-true, lt-ltb, cases_Bool}
use Rattle.std.proofs.Math.Seq.{take-append_seam}
use Rattle.std.proofs.lemmas.List.Folds.{list_all_at}
use Rattle.psplib_read.specs.Lines.{Line, line_len, line_text, lines_from, has_only, is_silent, spoken}
use Rattle.psplib_read.specs.Written.{ended}

-- a byte that is neither LF nor CR
abbrev pub is_plain_byte : ℕ → Bool
is_plain_byte byte = not (byte == 10) && not (byte == 13)

-- a text without line ends
abbrev pub is_plain : List ℕ → Bool
is_plain text = list_all is_plain_byte text

-- a plain text is a line up to the LF after it
length_is : (text rest : List ℕ) → is_plain text ≡ true → line_len (text ++ 10 ∷ rest) ≡ length text
length_is [] rest plain = refl
length_is (byte ∷ text) rest plain =
    let each = and_parts (is_plain_byte byte) (is_plain text) plain in
    let here : (byte == 10) ≡ false = not-true (byte == 10)
    (and_parts (not (byte == 10)) (not (byte == 13)) each.0).0 in
    rw here (omega (arith, length_is text rest each.1))

-- it has no CR at its end
no_return : (text : List ℕ) → is_plain text ≡ true → strip_last 13 text ≡ text
no_return [] plain = refl
no_return (byte ∷ rest) plain =
    let text = byte ∷ rest in
    let last = get_or text (length text - 1) 0 in
    elim (cases_Bool (is_plain_byte last)) [
      | inl good ↦
          let other : (last == 13) ≡ false = not-true (last == 13)
          (and_parts (not (last == 10)) (not (last == 13)) good).1 in
          rw (other, lt-ltb 0 (length text) (omega arith)) refl
      | inr bad ↦ let none = list_all_at is_plain_byte text (length text - 1) 0 (omega arith)
          bad in absurd cc
    ]

-- the LF stands past the text
length_past : (text rest : List ℕ) → length text < length (text ++ 10 ∷ rest)
length_past [] rest = omega arith
length_past (byte ∷ text) rest = omega (arith, length_past text rest)

-- so the first line is the text
line_is : (text rest : List ℕ) → is_plain text ≡ true → line_text (text ++ 10 ∷ rest) ≡ text
unfolding line_text
line_is text rest plain =
    rw (
      length_is text rest plain,
      lt-ltb (length text) (length (text ++ 10 ∷ rest))
          (length_past text rest),
      take-append_seam text (10 ∷ rest),
    )
    (no_return text plain)

-- the rest of a line is passed over
line_ends : (at : ℕ) (text rest : List ℕ) → is_plain text ≡ true
    → lines_from true at (text ++ 10 ∷ rest) ≡ lines_from false (suc (at + length text)) rest
unfolding lines_from
line_ends at [] rest plain = let past : at + 0 ≡ at = omega arith in rw past refl
line_ends at (byte ∷ text) rest plain =
    let each = and_parts (is_plain_byte byte) (is_plain text) plain in
    let here : (byte == 10) ≡ false = not-true (byte == 10)
    (and_parts (not (byte == 10)) (not (byte == 13)) each.0).0 in
    let past : at + suc (length text) ≡ suc at + length text = omega arith in
    rw (here, past) (line_ends (suc at) text rest each.1)

-- a line begins at the start of the bytes
line_first : (at : ℕ) (text rest : List ℕ) → is_plain text ≡ true
    → lines_from false at (text ++ 10 ∷ rest) ≡ record { text = text; at = at } ∷ lines_from false
    (suc (at + length text)) rest
unfolding lines_from
line_first at [] rest plain =
    let past : at + 0 ≡ at = omega arith in rw (past, line_is [] rest plain) refl
line_first at (byte ∷ text) rest plain =
    let each = and_parts (is_plain_byte byte) (is_plain text) plain in
    let here : (byte == 10) ≡ false = not-true (byte == 10)
    (and_parts (not (byte == 10)) (not (byte == 13)) each.0).0 in
    let past : at + suc (length text) ≡ suc at + length text = omega arith in
    rw (line_is (byte ∷ text) rest plain, here, past, line_ends (suc at) text rest each.1) refl

-- the texts of lines
abbrev pub line_texts : List Line → List (List ℕ)
line_texts lines = map (λ (line : Line). line.text) lines

-- the lines of a text are those that were written
pub lines_written : (at : ℕ) (texts : List (List ℕ)) → list_all is_plain texts ≡ true
    → line_texts (lines_from false at (flat_map ended texts)) ≡ texts
unfolding lines_from
lines_written at [] plain = refl
lines_written at (text ∷ texts) plain =
    let each = and_parts (is_plain text) (list_all is_plain texts) plain in
    let rest = flat_map ended texts in
    let first = line_first at text rest each.0 in
    let whole : text ++ codes "\n" ++ rest ≡ text ++ 10 ∷ rest = append_assoc text (codes "\n")
    rest in
    rw (whole, first) (ap (λ ls. text ∷ ls) (lines_written (suc (at + length text)) texts each.1))

-- a text that is neither blank nor a ruler
abbrev pub speaks : List ℕ → Bool
speaks text = not (has_only 42 text || has_only 45 text)

-- lines that are blank or rulers are left out
pub spoken_are : (lines : List Line) → line_texts (spoken lines) ≡ filter speaks (line_texts lines)
unfolding is_silent
spoken_are [] = refl
spoken_are (line ∷ lines) =
    kept (speaks line.text) line (spoken lines) (filter speaks (line_texts lines))
    (spoken_are lines)
  where
    kept : (test : Bool) (line : Line) (lines : List Line) (texts : List (List ℕ))
        → line_texts lines ≡ texts
        → line_texts (cond test (line ∷ lines) lines) ≡ cond test (line.text ∷ texts) texts
    kept true line lines texts same = ap (λ ts. line.text ∷ ts) same
    kept false line lines texts same = same
