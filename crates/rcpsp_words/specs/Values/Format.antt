-- The format of an instance's text, by a word or by the name of its file.
use Rattle.std.specs.Prelude.{ℕ, ◌-◌, Bool, List, length, drop, Option, None, Some, codes, if◌then◌else◌}
use Rattle.std.specs.Str.{bytes_eq, str_eq_ignore_ascii_case}
use Rattle.rcpsp_words.specs.declared.values.format.Format.{Format}
use Rattle.rcpsp_words.specs.declared.values.format.Format.TheVariants.{Sm, Rcp}

-- the format of a word
abbrev pub format_named : List ℕ → Option Format
format_named word =
    if bytes_eq word (codes "sm") then Some Sm
    else if bytes_eq word (codes "rcp") then Some Rcp
    else None

-- whether a name ends in these letters, whatever their case
abbrev pub ends_in : List ℕ → List ℕ → Bool
ends_in name ending =
    str_eq_ignore_ascii_case (drop (length name - length ending) name) ending

-- the format of a file, by the ending of its name
abbrev pub format_ending : List ℕ → Option Format
format_ending file =
    if ends_in file (codes ".sm") then Some Sm
    else if ends_in file (codes ".rcp") then Some Rcp
    else None
