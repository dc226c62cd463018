-- Records of CSV as the writer writes them: the header, and records of numbers.
use Rattle.std.proofs.Common.{◌≡◌, ℕ, ◌+◌, ◌^◌, ◌<◌, ◌%◌, false, [], ◌∷◌, refl, arith, append_assoc, ne_eqb}
use Rattle.std.specs.Prelude.{codes}
use Rattle.std.specs.Fmt.{decimal}
use Rattle.std.proofs.lemmas.Fmt.{decimal_by_steps}
use Rattle.std.proofs.lemmas.List.Folds.{list_any-append}
use Rattle.csv.specs.Writing.{default_writer, fields_text, is_blank, needs_byte, needs_quotes, row_text}
use Rattle.gantt_table.specs.Csv.{csv_record}

-- a digit calls for no quotes
plain_digit : (d : ℕ) → needs_byte default_writer (48 + d) ≡ false
plain_digit d =
    rw (
      ne_eqb (48 + d) 44 (λ e. omega arith),
      ne_eqb (48 + d) 34 (λ e. omega arith),
      ne_eqb (48 + d) 13 (λ e. omega arith),
      ne_eqb (48 + d) 10 (λ e. omega arith),
    )

-- a number calls for no quotes
plain_number : (n : ℕ) → n < 2 ^ 64 → needs_quotes default_writer (decimal n) ≡ false
plain_number n fits =
    decimal_by_steps (λ _ digits. needs_quotes default_writer digits ≡ false)
    (λ n one. rw (plain_digit n))
    (λ n digits some before.
    rw (
      list_any-append (needs_byte default_writer) digits ((48 + n % 10) ∷ []),
      before,
      plain_digit (n % 10),
    ))
    n fits

-- what the writer writes for the three words of the header
pub row_text-header : row_text default_writer
    (codes "activity" ∷ codes "start" ∷ codes "finish" ∷ [])
    ≡ codes "activity,start,finish\n"
unfolding fields_text is_blank
row_text-header = refl

-- what the writer writes for three numbers
pub row_text-numbers : (first second third : ℕ)
    → first < 2 ^ 64 → second < 2 ^ 64 → third < 2 ^ 64
    → row_text default_writer (decimal first ∷ decimal second ∷ decimal third ∷ [])
    ≡ csv_record first second third
unfolding fields_text is_blank
row_text-numbers first second third a b c =
    rw (plain_number first a, plain_number second b, plain_number third c) (simp append_assoc)
