-- How many fetches a run makes.
use Rattle.std.proofs.Common.{◌≡◌, ℕ, ◌+◌, List, length, Some, slice_get, arith}
use Rattle.std.proofs.lemmas.Option.{slice_get_within}
use Rattle.rc_edge.specs.Faults.{counted_on}
use Rattle.rcpsp_run.specs.Causes.{FilesAt, FetchesAtMost}

-- no fetch is no more than any number
pub fetches-none : (most : ℕ) (before after : FilesAt) → after.fetches ≡ before.fetches
    → FetchesAtMost most before after
unfolding FetchesAtMost
fetches-none most before after same = (0, omega arith, same)

-- one fetch for each name
pub fetches-all : (most : ℕ) (before after : FilesAt) → after.fetches ≡ counted_on before.fetches most
    → FetchesAtMost most before after
unfolding FetchesAtMost
fetches-all most before after made = (most, omega arith, made)

-- one fetch for each name up to a place among them
pub fetches-up_to : {X : Type 0} (names : List X) (place : ℕ) (name : X) (before after : FilesAt)
    → slice_get names place ≡ Some name → after.fetches ≡ counted_on before.fetches (place + 1)
    → FetchesAtMost (length names) before after
unfolding FetchesAtMost
fetches-up_to names place name before after is made =
    (place + 1, omega (arith, slice_get_within names place name is), made)
