-- The words of the priority rules.
use Rattle.std.specs.Prelude.{ℕ, List, Option, None, Some, codes, if◌then◌else◌}
use Rattle.std.specs.Str.{bytes_eq}
use Rattle.priority_rules.specs.declared.rule.Rule.{Rule}
use Rattle.priority_rules.specs.declared.rule.Rule.TheVariants.{Number, Lft, Lst, Mts, Grpw}

-- the priority rule of a word
abbrev pub rule_named : List ℕ → Option Rule
rule_named word =
    if bytes_eq word (codes "number") then Some Number
    else if bytes_eq word (codes "lft") then Some Lft
    else if bytes_eq word (codes "lst") then Some Lst
    else if bytes_eq word (codes "mts") then Some Mts
    else if bytes_eq word (codes "grpw") then Some Grpw
    else None
