-- The words of a closed table, read by place.
use Rattle.std.proofs.Common.{◌≡◌, ℕ, ◌<◌, List, length, get_or, slice_index, sym, ◌∙◌}
use Rattle.std.proofs.lemmas.List.{get_or_default}
use Rattle.atomic_table.proofs.Lists.{at_index}
use mathlib.Core.Option.{some, some-injective}
use lib.ListN.{get_elem?}

pub word_at : (words : List ℕ) (i a : ℕ) → i < length words → get_elem? words i ≡ some a
    → a ≡ slice_index words i
word_at words i a below is =
    let here = at_index words i (get_or words i 0) below
    (get_or_default words i 0 (get_or words i 0) below) in
    some-injective a (get_or words i 0) (sym is ∙ here)
