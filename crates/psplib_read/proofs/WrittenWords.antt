-- What stands in a written line: its words, that it is plain, and that it is neither blank nor a
-- ruler.
use Rattle.std.proofs.Common.{◌≡◌, ℕ, zero, suc, ◌+◌, ◌-◌, ◌^◌, ◌<◌, true, false, ◌&&◌, ◌||◌, ◌==◌, List, [], ◌∷◌, ◌++◌, length, map, refl, sym, ap, subst, ◌∙◌, arith, append_assoc, ne_eqb, ◌%◌}
use Rattle.std.specs.Prelude.{codes, replicate}
use Rattle.std.specs.List.{list_all, flat_map}
use Rattle.std.specs.Fmt.{decimal}
use Rattle.std.proofs.Math.Bool.{and-false}
use Rattle.std.proofs.lemmas.Fmt.{decimal_by_steps}
use Rattle.std.proofs.lemmas.List.Elements.{All-head, All-tail}
use Rattle.std.proofs.lemmas.List.Folds.{list_all-append}
use Rattle.rc_edge.specs.Tokens.{is_white}
use Rattle.rc_edge.specs.Written.{placed}
use Rattle.rc_edge.proofs.NumberedLaws.{AreSmall}
use Rattle.rc_edge.proofs.WrittenLaws.{breaks, HasWords, words-none, words-white, words-word, decimal_is_word}
use Rattle.psplib_read.specs.Lines.{has_only}
use Rattle.psplib_read.specs.Written.{column}
use Rattle.psplib_read.proofs.WrittenLines.{is_plain_byte, is_plain, speaks}

-- spaces are white
spaces_white : (count : ℕ) → list_all is_white (replicate count 32) ≡ true
unfolding is_white
spaces_white zero = refl
spaces_white (suc count) = spaces_white count

-- spaces are plain
spaces_plain : (count : ℕ) → is_plain (replicate count 32) ≡ true
spaces_plain zero = refl
spaces_plain (suc count) = spaces_plain count

-- a digit is plain
digit_plain : (d : ℕ) → is_plain_byte (48 + d) ≡ true
digit_plain d =
    rw (ne_eqb (48 + d) 10 (λ e. omega arith), ne_eqb (48 + d) 13 (λ e. omega arith)) refl

-- a digit stands in no blank line and no ruler
digit_speaks : (mark d : ℕ) → mark < 48 → (is_white (48 + d) || 48 + d == mark) ≡ false
unfolding is_white
digit_speaks mark d low =
    rw (
      ne_eqb (48 + d) 32 (λ e. omega arith),
      ne_eqb (48 + d) 9 (λ e. omega arith),
      ne_eqb (48 + d) 10 (λ e. omega arith),
      ne_eqb (48 + d) 12 (λ e. omega arith),
      ne_eqb (48 + d) 13 (λ e. omega arith),
      ne_eqb (48 + d) 26 (λ e. omega arith),
      ne_eqb (48 + d) mark (λ e. omega arith),
    )
    refl

-- so is a number
pub decimal_plain : (n : ℕ) → n < 2 ^ 64 → is_plain (decimal n) ≡ true
decimal_plain n fits =
    decimal_by_steps (λ _ digits. is_plain digits ≡ true) (λ n one. rw (digit_plain n) refl)
    (λ n digits some before. list_all-append is_plain_byte digits ((48 + n % 10) ∷ [])
    ∙ rw (before, digit_plain (n % 10)) refl)
    n fits

-- so does a number
decimal_speaks : (mark n : ℕ) → mark < 48 → n < 2 ^ 64 → has_only mark (decimal n) ≡ false
decimal_speaks mark n low fits =
    decimal_by_steps (λ _ digits. has_only mark digits ≡ false)
    (λ n one. rw (digit_speaks mark n low) refl)
    (λ n digits some before.
    list_all-append (λ byte. is_white byte || byte == mark) digits ((48 + n % 10) ∷ []) ∙ rw before
    refl)
    n fits

-- a line with a number in it speaks
pub number_speaks : (before after : List ℕ) (n : ℕ) → n < 2 ^ 64
    → speaks (before ++ (decimal n ++ after)) ≡ true
number_speaks before after n fits =
    let none = λ (mark : ℕ) (low : mark < 48).
    list_all-append (λ byte. is_white byte || byte == mark) before (decimal n ++ after)
    ∙ ap (λ b. list_all (λ byte. is_white byte || byte == mark) before && b)
    (list_all-append (λ byte. is_white byte || byte == mark) (decimal n) after
    ∙ rw (decimal_speaks mark n low fits) refl)
    ∙ and-false _ in
    rw (none 42 (omega arith), none 45 (omega arith)) refl

-- a number in its place is a word, after white space
pub placed_words : (places n : ℕ) (rest : List ℕ) (words : List (List ℕ)) → n < 2 ^ 32
    → breaks rest ≡ true
    → HasWords rest words → HasWords (placed places n ++ rest) (decimal n ∷ words)
placed_words places n rest words small white others =
    let pad = replicate (places - length (decimal n)) 32 in
    subst (λ bytes. HasWords bytes (decimal n ∷ words)) (sym (append_assoc pad (decimal n) rest))
    (words-white pad (decimal n ++ rest) (decimal n ∷ words)
    (spaces_white (places - length (decimal n)))
    (words-word (decimal n) rest words (decimal_is_word n (omega arith)) white others))

-- so is a number in a column
pub column_words : (places n : ℕ) (rest : List ℕ) (words : List (List ℕ)) → n < 2 ^ 32
    → breaks rest ≡ true
    → HasWords rest words → HasWords (column places n ++ rest) (decimal n ∷ words)
unfolding is_white
column_words places n rest words small white others =
    words-white (codes " ") (placed places n ++ rest) (decimal n ∷ words) refl
    (placed_words places n rest words small white others)

-- columns begin with white space
columns_break : (places : ℕ) (ns : List ℕ) → breaks (flat_map (column places) ns) ≡ true
unfolding is_white
columns_break places [] = refl
columns_break places (n ∷ ns) = refl

-- so are all numbers in columns
pub columns_words : (places : ℕ) (ns : List ℕ) → AreSmall ns
    → HasWords (flat_map (column places) ns) (map decimal ns)
columns_words places [] small = words-none
columns_words places (n ∷ ns) small =
    column_words places n (flat_map (column places) ns) (map decimal ns)
    (All-head (λ n. n < 2 ^ 32) n ns small)
    (columns_break places ns) (columns_words places ns (All-tail (λ n. n < 2 ^ 32) n ns small))

-- a number in its place is plain
placed_plain : (places n : ℕ) → n < 2 ^ 32 → is_plain (placed places n) ≡ true
placed_plain places n small =
    let pad = replicate (places - length (decimal n)) 32 in
    list_all-append is_plain_byte pad (decimal n)
    ∙ rw (spaces_plain (places - length (decimal n)), decimal_plain n (omega arith)) refl

-- numbers in columns are plain
pub columns_plain : (places : ℕ) (ns : List ℕ) → AreSmall ns
    → is_plain (flat_map (column places) ns) ≡ true
columns_plain places [] small = refl
columns_plain places (n ∷ ns) small =
    let others = columns_plain places ns (All-tail (λ n. n < 2 ^ 32) n ns small) in
    list_all-append is_plain_byte (placed places n) (flat_map (column places) ns)
    ∙ rw (placed_plain places n (All-head (λ n. n < 2 ^ 32) n ns small), others) refl

-- a row: a number in its place, two in columns, and a list in columns
abbrev pub job_line : ℕ → ℕ → ℕ → ℕ → ℕ → ℕ → List ℕ → List ℕ
job_line second third others a b c ns =
    placed 4 a ++ column second b ++ column third c ++ flat_map (column others) ns

-- its words are its numbers
pub job_line_words : (second third others a b c : ℕ) (ns : List ℕ) → a < 2 ^ 32 → b < 2 ^ 32
    → c < 2 ^ 32
    → AreSmall ns
    → HasWords (job_line second third others a b c ns)
    (decimal a ∷ decimal b ∷ decimal c ∷ map decimal ns)
unfolding is_white
job_line_words second third others a b c ns small_a small_b small_c small =
    let list = flat_map (column others) ns in
    let from_c = column_words third c list (map decimal ns) small_c (columns_break others ns)
    (columns_words others ns small) in
    let from_b = column_words second b (column third c ++ list) (decimal c ∷ map decimal ns) small_b
    refl from_c in
    let from_a = placed_words 4 a (column second b ++ (column third c ++ list))
    (decimal b ∷ decimal c ∷ map decimal ns) small_a refl from_b in
    subst (λ bytes. HasWords bytes (decimal a ∷ decimal b ∷ decimal c ∷ map decimal ns))
    (simp append_assoc) from_a

-- a row is plain
pub job_line_plain : (second third others a b c : ℕ) (ns : List ℕ) → a < 2 ^ 32 → b < 2 ^ 32
    → c < 2 ^ 32
    → AreSmall ns
    → is_plain (job_line second third others a b c ns) ≡ true
job_line_plain second third others a b c ns small_a small_b small_c small =
    let list = flat_map (column others) ns in
    let from_c : is_plain (column third c ++ list) ≡ true = both_plain (column third c) list
    (placed_plain third c small_c) (columns_plain others ns small) in
    let from_b : is_plain (column second b ++ (column third c ++ list)) ≡ true = both_plain
    (column second b) (column third c ++ list) (placed_plain second b small_b) from_c in
    let from_a = both_plain (placed 4 a) (column second b ++ (column third c ++ list))
    (placed_plain 4 a small_a) from_b in
    let same : placed 4 a ++ (column second b ++ (column third c ++ list))
    ≡ job_line second third others
    a b c ns = simp append_assoc in
    subst (λ bytes. is_plain bytes ≡ true) same from_a
  where
    both_plain : (xs ys : List ℕ) → is_plain xs ≡ true → is_plain ys ≡ true
        → is_plain (xs ++ ys) ≡ true
    both_plain xs ys first second = list_all-append is_plain_byte xs ys ∙ rw (first, second) refl

-- a row is neither blank nor a ruler
pub job_line_speaks : (second third others a b c : ℕ) (ns : List ℕ) → a < 2 ^ 32
    → speaks (job_line second third others a b c ns) ≡ true
job_line_speaks second third others a b c ns small =
    let pad = replicate (4 - length (decimal a)) 32 in
    let after = column second b ++ (column third c ++ flat_map (column others) ns) in
    let same : pad ++ (decimal a ++ after) ≡ job_line second third others a b c ns = simp
    append_assoc in
    subst (λ bytes. speaks bytes ≡ true) same (number_speaks pad after a (omega arith))
