-- Names that are given together, one after another.
use Rattle.std.proofs.Common.{ℕ, ◌+◌, ◌&&◌, not, Bool, List, [], count_by, nat_le, Option, codes}
use Rattle.std.specs.List.{list_any}
use Rattle.rcpsp_words.specs.Values.Name.{is_given}

-- whether names can be given besides some that are `-`
abbrev pub are_names_after : ℕ → List (Option (List ℕ)) → Bool
are_names_after dashes names =
    not (list_any (λ name. is_given name []) names)
    && nat_le (dashes + count_by (λ name. is_given name (codes "-")) names) 1
