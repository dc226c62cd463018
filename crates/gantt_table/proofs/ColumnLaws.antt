-- The columns of a chart: what stands in them.
use Rattle.std.proofs.Common.{◌≡◌, ℕ, zero, suc, ◌+◌, ◌*◌, ◌<◌, ◌≤◌, max, min, [], ◌∷◌, ◌++◌, ◌∙◌, arith, ltb}
use Rattle.std.specs.List.{list_any, range_with_len}
use Rattle.std.proofs.lemmas.Bool.{cond-true, cond-false}
use Rattle.std.proofs.lemmas.Bool.Decides.{nat_tests}
use Rattle.std.proofs.lemmas.List.FromFn.{map-range_with_len_more}
use Rattle.gantt_table.specs.Chart.{runs, busy, idle, mark, bar}

-- an activity runs in some of so many periods exactly where both spans have a period in common
runs_in_some : (start finish from width : ℕ)
    → list_any (runs start finish) (range_with_len from width)
    ≡ ltb (max start from) (min finish (from + width))
runs_in_some start finish from zero = grind (arith, nat_tests)
runs_in_some start finish from (suc width) =
    let rest = runs_in_some start finish (from + 1) width in grind (arith, nat_tests, rest)

-- the character of a column that has a period in common with an activity
pub mark_busy : (width start finish j : ℕ)
    → max start (j * width) < min finish (j * width + width) → mark width start finish j ≡ busy
mark_busy width start finish j common =
    cond-true _ busy idle (runs_in_some start finish (j * width) width ∙ grind (arith, nat_tests))

-- the character of a column that has none
pub mark_idle : (width start finish j : ℕ)
    → min finish (j * width + width) ≤ max start (j * width) → mark width start finish j ≡ idle
mark_idle width start finish j apart =
    cond-false _ busy idle (runs_in_some start finish (j * width) width ∙ grind (arith, nat_tests))

-- one more column
pub bar_more : (width start finish j : ℕ)
    → bar width (j + 1) start finish ≡ bar width j start finish ++ mark width start finish j ∷ []
unfolding bar
bar_more width start finish j =
    map-range_with_len_more (mark width start finish) 0 j j (omega arith)
