-- The words of the forms in which a schedule is shown.
use Rattle.std.specs.Prelude.{ℕ, List, Option, None, Some, codes, if◌then◌else◌}
use Rattle.std.specs.Str.{bytes_eq}
use Rattle.rcpsp_words.specs.declared.values.form.Form.{Form}
use Rattle.rcpsp_words.specs.declared.values.form.Form.TheVariants.{Table, Chart, Csv}

-- the form of a word
abbrev pub form_named : List ℕ → Option Form
form_named word =
    if bytes_eq word (codes "table") then Some Table
    else if bytes_eq word (codes "chart") then Some Chart
    else if bytes_eq word (codes "csv") then Some Csv
    else None
