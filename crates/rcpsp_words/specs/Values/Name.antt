-- The names of files that words give.
use Rattle.std.specs.Prelude.{ℕ, ◌&&◌, not, Bool, false, List, [], count_by, nat_le, Option, None, Some, codes}
use Rattle.std.specs.List.{list_any}
use Rattle.std.specs.Str.{bytes_eq}

-- whether a name is given, and is this text
abbrev pub is_given : Option (List ℕ) → List ℕ → Bool
is_given (Some name) text = bytes_eq name text
is_given None text = false

-- whether names can be given together: none is empty, and at most one is `-`, standard input
abbrev pub are_names : List (Option (List ℕ)) → Bool
are_names names =
    not (list_any (λ name. is_given name []) names)
    && nat_le (count_by (λ name. is_given name (codes "-")) names) 1
