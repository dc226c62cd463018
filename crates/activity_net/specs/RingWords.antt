-- What a cycle says.
use Rattle.std.specs.Prelude.{ℕ, List, ◌++◌, take, codes}
use Rattle.std.specs.List.{flat_map}
use Rattle.std.specs.Fmt.{decimal}

-- numbers, with a space before each
abbrev pub spaced_numbers : List ℕ → List ℕ
spaced_numbers numbers = flat_map (λ number. codes " " ++ decimal number) numbers

-- a cycle: its numbers in order of precedence, and its first once more
abbrev pub ring_words : List ℕ → List ℕ
ring_words ring = codes "cycle" ++ spaced_numbers ring ++ spaced_numbers (take 1 ring)
