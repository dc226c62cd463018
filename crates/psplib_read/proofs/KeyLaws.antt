-- The key of a line against a word, byte by byte.
use Rattle.std.proofs.Common.{◌≡◌, ℕ, suc, ◌+◌, ◌<◌, ◌≤◌, Bool, true, false, ◌&&◌, List, [], ◌∷◌, length, get_or, drop, refl, sym, ap, ◌∙◌, inl, inr, arith}
use Rattle.std.specs.Prelude.{◌==◌}
use Rattle.std.specs.List.{position_or_len}
use Rattle.std.specs.Char.{to_ascii_lowercase}
use Rattle.std.proofs.lemmas.Bool.{cases_lt, eq-eqb, ne_eqb}
use Rattle.std.proofs.lemmas.List.{drop_all, drop_more, at_drop_more, at_drop_all}
use Rattle.rc_edge.specs.Tokens.{is_white}
use Rattle.psplib_read.specs.Lines.{is_colon, key_in, begins_with}

-- the key of bytes, by the first of them
key_ends : (byte : ℕ) (text : List ℕ) → is_colon byte ≡ true → key_in (byte ∷ text) ≡ []
key_ends byte text colon = rw colon refl

key_skips : (byte : ℕ) (text : List ℕ) → is_colon byte ≡ false → is_white byte ≡ true
    → key_in (byte ∷ text) ≡ key_in text
key_skips byte text other white =
    let one_more : 1 + position_or_len is_colon text ≡ suc (position_or_len is_colon text) = omega
    arith in
    rw (other, one_more, white) refl

key_has : (byte : ℕ) (text : List ℕ) → is_colon byte ≡ false → is_white byte ≡ false
    → key_in (byte ∷ text) ≡ to_ascii_lowercase byte ∷ key_in text
key_has byte text other black =
    let one_more : 1 + position_or_len is_colon text ≡ suc (position_or_len is_colon text) = omega
    arith in
    rw (other, one_more, black) refl

-- the rest of a word against the rest of a key
none_due : (key : List ℕ) → begins_with [] key ≡ true
unfolding begins_with
none_due key = refl

none_left : (letter : ℕ) (word : List ℕ) → begins_with (letter ∷ word) [] ≡ false
unfolding begins_with
none_left letter word = refl

one_left : (letter first : ℕ) (word key : List ℕ) → begins_with (letter ∷ word) (first ∷ key)
    ≡ (letter == first && begins_with word key)
unfolding begins_with
one_left letter first word key = refl

-- how much of the word was matched when so many bytes were passed, as a loop keeps it
abbrev pub IsMatched : List ℕ → List ℕ → ℕ → ℕ → Bool → Type 0
IsMatched word text matched passed whole = begins_with (drop matched word)
    (key_in (drop passed text)) ≡ whole

pub matched_all : (word text : List ℕ) (matched passed : ℕ) (whole : Bool) → length word ≤ matched
    → IsMatched word text matched passed whole → true ≡ whole
matched_all word text matched passed whole all so_far =
    let none = drop_all matched word all in
    sym (rw none (none_due (key_in (drop passed text)))) ∙ so_far

-- at the colon, where letters are due
pub colon_comes : (word text : List ℕ) (matched passed : ℕ) (whole : Bool) → matched < length word
    → passed < length text
    → is_colon (get_or text passed 0) ≡ true → IsMatched word text matched passed whole
    → false ≡ whole
colon_comes word text matched passed whole due inside colon so_far =
    let letters = drop_more word matched 0 due in
    let key = at_drop_more key_in text passed 0 inside ∙ key_ends (get_or text passed 0)
    (drop (passed + 1) text) colon in
    sym (rw (letters, key) (none_left (get_or word matched 0) (drop (matched + 1) word))) ∙ so_far

-- at the end of the line, where letters are due
pub end_comes : (word text : List ℕ) (matched passed : ℕ) (whole : Bool) → matched < length word
    → length text ≤ passed
    → IsMatched word text matched passed whole → false ≡ whole
end_comes word text matched passed whole due past so_far =
    let letters = drop_more word matched 0 due in
    let key = at_drop_all key_in text passed past in
    sym (rw (letters, key) (none_left (get_or word matched 0) (drop (matched + 1) word))) ∙ so_far

-- past white space
pub white_comes : (word text : List ℕ) (matched passed : ℕ) (whole : Bool) → passed < length text
    → is_colon (get_or text passed 0) ≡ false → is_white (get_or text passed 0) ≡ true
    → IsMatched word text matched passed whole → IsMatched word text matched (passed + 1) whole
white_comes word text matched passed whole inside other white so_far =
    let key = at_drop_more key_in text passed 0 inside ∙ key_skips (get_or text passed 0)
    (drop (passed + 1) text) other white in
    ap (begins_with (drop matched word)) (sym key) ∙ so_far

-- at a letter of the key, which is the one that is due or another
letter_comes : (word text : List ℕ) (matched passed : ℕ) → matched < length word
    → passed < length text
    → is_colon (get_or text passed 0) ≡ false → is_white (get_or text passed 0) ≡ false
    → begins_with (drop matched word) (key_in (drop passed text))
    ≡ (get_or word matched 0 == to_ascii_lowercase (get_or text passed 0) && begins_with
    (drop (matched + 1) word) (key_in (drop (passed + 1) text)))
letter_comes word text matched passed due inside other black =
    let letters = drop_more word matched 0 due in
    let key = at_drop_more key_in text passed 0 inside ∙ key_has (get_or text passed 0)
    (drop (passed + 1) text) other black in
    rw (letters, key) (one_left (get_or word matched 0) (to_ascii_lowercase (get_or text passed 0))
    (drop (matched + 1) word) (key_in (drop (passed + 1) text)))

pub same_letter_comes : (word text : List ℕ) (matched passed : ℕ) (whole : Bool)
    → matched < length word
    → passed < length text
    → is_colon (get_or text passed 0) ≡ false → is_white (get_or text passed 0) ≡ false
    → get_or word matched 0 ≡ to_ascii_lowercase (get_or text passed 0)
    → IsMatched word text matched passed whole → IsMatched word text (matched + 1) (passed + 1)
    whole
same_letter_comes word text matched passed whole due inside other black same so_far =
    let step = letter_comes word text matched passed due inside other black in
    let test = eq-eqb _ _ same in
    sym (step ∙ ap (λ b. b && begins_with (drop (matched + 1) word)
    (key_in (drop (passed + 1) text))) test) ∙ so_far

pub other_letter_comes : (word text : List ℕ) (matched passed : ℕ) (whole : Bool)
    → matched < length word
    → passed < length text
    → is_colon (get_or text passed 0) ≡ false → is_white (get_or text passed 0) ≡ false
    → (get_or word matched 0 ≡ to_ascii_lowercase (get_or text passed 0) → ⊥)
    → IsMatched word text matched passed whole → false ≡ whole
other_letter_comes word text matched passed whole due inside other black differ so_far =
    let step = letter_comes word text matched passed due inside other black in
    let test = ne_eqb _ _ differ in
    sym (step ∙ ap (λ b. b && begins_with (drop (matched + 1) word)
    (key_in (drop (passed + 1) text))) test) ∙ so_far

-- the whole line was passed
pub line_passed : (word text : List ℕ) (matched passed : ℕ) (whole : Bool) → matched ≤ length word
    → length text ≤ passed
    → IsMatched word text matched passed whole → (matched == length word) ≡ whole
line_passed word text matched passed whole within past so_far =
    elim (cases_lt matched (length word)) [
      | inl due ↦ ne_eqb matched (length word) (λ all. absurd (omega arith))
          ∙ end_comes word text matched passed whole due past so_far
      | inr all ↦ let same : matched ≡ length word = omega arith in eq-eqb _ _ same
          ∙ matched_all word text matched passed whole all so_far
    ]
