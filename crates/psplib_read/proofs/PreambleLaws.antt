-- The preamble, line by line.
use Rattle.std.proofs.Common.{◌≡◌, ℕ, true, false, List, [], ◌∷◌, Result, Ok, Err, None, Some, refl, sym, ap, subst, ◌∙◌}
use Rattle.rc_edge.specs.declared.text_fault.TextFault.{TextFault}
use Rattle.rc_edge.specs.declared.text_fault.TextKind.TheVariants.{Ended}
use Rattle.rc_edge.specs.Grammar.{◌>>=◌, Gives}
use Rattle.psplib_read.specs.declared.preamble.Head.{Head}
use Rattle.psplib_read.specs.declared.preamble.Preamble.{Preamble}
use Rattle.psplib_read.specs.Lines.{Line, first_at, tokens_in}
use Rattle.psplib_read.specs.Left.{Left, line_in, next_line, past_line}
use Rattle.psplib_read.specs.Preamble.{with_line, head_of, with_lines, ends_preamble, preamble_in}

-- the next line is the first of those that are left
pub next_is : (left next : Left) (line : Line) → next_line left ≡ Some (line, next)
    → (left.lines ≡ line ∷ next.lines) × (next.size ≡ left.size)
unfolding next_line
next_is left next line found = by_lines left.lines found
  where
    some_is : (a b : Line × Left) → Some a ≡ Some b → a ≡ b
    some_is a b e = cc

    by_lines : (lines : List Line) → line_in left lines ≡ Some (line, next)
        → (lines ≡ line ∷ next.lines) × (next.size ≡ left.size)
    by_lines [] found = absurd cc
    by_lines (first ∷ others) found =
        let same = some_is (first, record left { tokens = tokens_in first; lines = others })
        (line, next) found in
        let line_is : first ≡ line = ap (λ (x : Line × Left). x.0) same in
        let lines_are : others ≡ next.lines = ap (λ (x : Line × Left). x.1.lines) same in
        (cc, sym (ap (λ (x : Line × Left). x.1.size) same))

pub next_none : (left : Left) → next_line left ≡ None → left.lines ≡ []
unfolding next_line
next_none left found = by_lines left.lines found
  where
    by_lines : (lines : List Line) → line_in left lines ≡ None → lines ≡ []
    by_lines [] found = refl
    by_lines (first ∷ others) found = absurd cc

-- n and K, where the line that ends the preamble comes
head_and_left : (size : ℕ) (left : Left) (head : Result Head TextFault) → left.size ≡ size
    → Gives (λ head. (head, past_line left)) head (head >>= with_lines size left.lines)
unfolding past_line
head_and_left size left (Ok head) size_is = rw size_is refl
head_and_left size left (Err fault) size_is = refl

pub end_comes : (size : ℕ) (preamble : Preamble) (left next : Left) (line : Line)
    (head : Result Head TextFault) (total : Result (Head × Left) TextFault)
    → next_line left ≡ Some (line, next) → ends_preamble line ≡ true
    → head ≡ head_of preamble.jobs preamble.renewable (first_at line) → left.size ≡ size
    → preamble_in size preamble left.lines ≡ total → Gives (λ head. (head, past_line next)) head
    total
unfolding preamble_in
end_comes size preamble left next line head total found ends head_is size_is so_far =
    let lines = next_is left next line found in
    let step : preamble_in size preamble left.lines ≡ (head >>= with_lines size next.lines) =
    rw (lines.0, ends, head_is) refl in
    subst (λ (read : Result (Head × Left) TextFault). Gives (λ head. (head, past_line next)) head
    read) (sym step ∙ so_far)
    (head_and_left size next head (lines.1 ∙ size_is))

-- another line was read, or refused
pub line_comes : (size : ℕ) (preamble after : Preamble) (left next : Left) (line : Line)
    (total : Result (Head × Left) TextFault)
    → next_line left ≡ Some (line, next) → ends_preamble line ≡ false
    → Ok after ≡ with_line line preamble
    → preamble_in size preamble left.lines ≡ total → preamble_in size after next.lines ≡ total
unfolding preamble_in
line_comes size preamble after left next line total found other read so_far =
    let lines = next_is left next line found in
    let step : preamble_in size preamble left.lines ≡ preamble_in size after next.lines =
    rw (lines.0, other, ← read) refl in
    sym step ∙ so_far

pub line_refused : (size : ℕ) (preamble : Preamble) (left next : Left) (line : Line)
    (fault : TextFault) (total : Result (Head × Left) TextFault)
    → next_line left ≡ Some (line, next) → ends_preamble line ≡ false
    → Err fault ≡ with_line line preamble
    → preamble_in size preamble left.lines ≡ total → total ≡ Err fault
unfolding preamble_in
line_refused size preamble left next line fault total found other refused so_far =
    let lines = next_is left next line found in
    let step : preamble_in size preamble left.lines ≡ Err fault = rw (lines.0, other, ← refused)
    refl in
    sym so_far ∙ step

-- no line is left
pub lines_end : (size : ℕ) (preamble : Preamble) (left : Left)
    (total : Result (Head × Left) TextFault)
    → next_line left ≡ None → preamble_in size preamble left.lines ≡ total
    → total ≡ Err (record { kind = Ended; at = size })
unfolding preamble_in
lines_end size preamble left total found so_far =
    let none = next_none left found in
    sym so_far ∙ rw none refl
