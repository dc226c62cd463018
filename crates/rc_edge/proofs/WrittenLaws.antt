-- The words of a text that was written piece by piece.
use Rattle.std.proofs.Common.{◌≡◌, ℕ, suc, ◌+◌, ◌^◌, ◌<◌, Bool, true, false, not, List, [], ◌∷◌, ◌++◌, length, map, Ok, refl, ap, ◌∙◌, arith, ne_eqb, ◌%◌}
use Rattle.std.specs.List.{list_all, position_or_len}
use Rattle.std.specs.Char.{is_ascii_digit}
use Rattle.std.specs.Fmt.{decimal}
use Rattle.std.proofs.lemmas.Bool.{and_parts, not-true, cond-true, le-leb, lt-ltb}
use Rattle.std.proofs.Math.Seq.{take-append_seam, drop-append_seam}
use Rattle.std.proofs.lemmas.Fmt.{decimal_by_steps, decimal_nonempty, decimal_is_IsNumeral}
use Rattle.std.proofs.lemmas.List.Folds.{list_all-append}
use Rattle.rc_edge.specs.Tokens.{is_white, Token, tokens_from}
use Rattle.rc_edge.specs.Numbers.{number_of}
use Rattle.rc_edge.proofs.TokenLaws.{word_taken}

-- a byte or more, none of them white
abbrev pub is_word : List ℕ → Bool
is_word [] = false
is_word (byte ∷ rest) = list_all (λ byte. not (is_white byte)) (byte ∷ rest)

-- whether white space or nothing comes first
abbrev pub breaks : List ℕ → Bool
breaks [] = true
breaks (byte ∷ rest) = is_white byte

-- a word ends where white space begins
word_length : (word rest : List ℕ) → list_all (λ byte. not (is_white byte)) word ≡ true
    → breaks rest ≡ true
    → position_or_len is_white (word ++ rest) ≡ length word
word_length [] [] black white = refl
word_length [] (byte ∷ rest) black white = rw white refl
word_length (byte ∷ word) rest black white =
    let each = and_parts (not (is_white byte)) (list_all (λ byte. not (is_white byte)) word)
    black in
    let here : is_white byte ≡ false = not-true (is_white byte) each.0 in
    rw here (omega (arith, word_length word rest each.1 white))

-- white space holds no token
pub tokens-white : (inside : Bool) (at byte : ℕ) (rest : List ℕ) → is_white byte ≡ true
    → tokens_from inside at (byte ∷ rest) ≡ tokens_from false (suc at) rest
unfolding tokens_from
tokens-white inside at byte rest white = cond-true (is_white byte) _ _ white

-- a word with white space after it is a token
pub tokens-word : (at : ℕ) (word rest : List ℕ) → is_word word ≡ true → breaks rest ≡ true
    → tokens_from false at (word ++ rest)
    ≡ record { text = word; at = at } ∷ tokens_from false (at + length word) rest
tokens-word at [] rest is white = absurd cc
tokens-word at (byte ∷ word) rest is white =
    let each = and_parts (not (is_white byte)) (list_all (λ byte. not (is_white byte)) word) is in
    let whole = byte ∷ word in
    let size = word_length whole rest is white in
    let taken = word_taken false at (whole ++ rest) (omega arith)
    (not-true (is_white byte) each.0) in
    rw (size, take-append_seam whole rest, drop-append_seam whole rest) at taken

-- the texts of tokens
abbrev pub texts : List Token → List (List ℕ)
texts tokens = map (λ (token : Token). token.text) tokens

-- the tokens of the bytes, wherever they stand, are these words
pub record HasWords (bytes : List ℕ) (words : List (List ℕ)) : Type 0 where
  pub has : (at : ℕ) → texts (tokens_from false at bytes) ≡ words

-- no bytes, no words
pub words-none : HasWords [] []
unfolding tokens_from
words-none = record { has = λ at. refl }

-- white space adds no word
pub words-white : (white rest : List ℕ) (words : List (List ℕ)) → list_all is_white white ≡ true
    → HasWords rest words → HasWords (white ++ rest) words
words-white [] rest words is others = others
words-white (byte ∷ white) rest words is others =
    let each = and_parts (is_white byte) (list_all is_white white) is in
    let tail = words-white white rest words each.1 others in
    record {
      has = λ at. ap texts (tokens-white false at byte (white ++ rest) each.0) ∙ tail.has
          (suc at);
    }

-- a word adds itself
pub words-word : (word rest : List ℕ) (words : List (List ℕ)) → is_word word ≡ true
    → breaks rest ≡ true
    → HasWords rest words → HasWords (word ++ rest) (word ∷ words)
words-word word rest words is white others = record {
  has = λ at. ap texts (tokens-word at word rest is white) ∙ ap (λ words. word ∷ words)
      (others.has (at + length word));
}

-- a digit is no white space
digit_black : (d : ℕ) → is_white (48 + d) ≡ false
unfolding is_white
digit_black d =
    rw (
      ne_eqb (48 + d) 32 (λ e. omega arith),
      ne_eqb (48 + d) 9 (λ e. omega arith),
      ne_eqb (48 + d) 10 (λ e. omega arith),
      ne_eqb (48 + d) 12 (λ e. omega arith),
      ne_eqb (48 + d) 13 (λ e. omega arith),
      ne_eqb (48 + d) 26 (λ e. omega arith),
    )

-- a number is a word
pub decimal_is_word : (n : ℕ) → n < 2 ^ 64 → is_word (decimal n) ≡ true
decimal_is_word n fits =
    decimal_by_steps (λ _ digits. is_word digits ≡ true) (λ n one. rw (digit_black n) refl)
    (λ n digits some before. longer digits (n % 10) before) n fits
  where
    longer : (digits : List ℕ) (d : ℕ) → is_word digits ≡ true
        → is_word (digits ++ (48 + d) ∷ []) ≡ true
    longer [] d before = absurd cc
    longer (first ∷ digits) d before =
        list_all-append (λ byte. not (is_white byte)) (first ∷ digits) ((48 + d) ∷ [])
        ∙ rw (before, digit_black d) refl

-- it is a numeral
decimal_is_numeral : (n : ℕ) → n < 2 ^ 64 → list_all is_ascii_digit (decimal n) ≡ true
decimal_is_numeral n fits =
    decimal_by_steps (λ _ digits. list_all is_ascii_digit digits ≡ true)
    (λ n one. rw (digit n one) refl)
    (λ n digits some before.
    list_all-append is_ascii_digit digits ((48 + n % 10) ∷ [])
    ∙ rw (before, digit (n % 10) (omega arith)) refl)
    n fits
  where
    digit : (d : ℕ) → d < 10 → is_ascii_digit (48 + d) ≡ true
    digit d small = rw (le-leb 48 (48 + d) (omega arith), le-leb (48 + d) 57 (omega arith)) refl

-- it is read as itself
pub number_of-decimal : (n : ℕ) → n < 2 ^ 32 → number_of (decimal n) ≡ Ok n
number_of-decimal n small =
    let value = (decimal_is_IsNumeral n (omega arith)).1 in
    rw (
      lt-ltb 0 (length (decimal n)) (decimal_nonempty n (omega arith)),
      decimal_is_numeral n (omega arith),
      value,
      le-leb n 4294967295 (omega arith),
    )
    refl
