-- How far the words of a booking were added.
use Rattle.std.proofs.Common.{ℕ, ◌+◌, ◌*◌, ◌<◌, ◌≤◌, arith}
use Rattle.book_rule.specs.declared.view.Reach.{Reach}
use Rattle.book_rule.specs.Reaches.{next_reach}
use Rattle.book_rule.proofs.SearchCases.{reach_cases}

-- one word more is further on
pub next_further : (n : ℕ) (r : Reach) → r.words < n → n ≤ 4
    → 5 * r.periods + r.words < 5 * (next_reach n r).periods + (next_reach n r).words
next_further n r inside narrow =
    reach_cases (λ x. 5 * r.periods + r.words < 5 * x.periods + x.words) n r (λ more. omega arith)
    (λ last. omega arith)
