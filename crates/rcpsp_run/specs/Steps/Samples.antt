-- What is written of samples.
use Rattle.std.specs.Prelude.{ℕ, ◌+◌, List, [], ◌∷◌, ◌++◌, codes}
use Rattle.std.specs.Fmt.{decimal}
use Rattle.rcpsp_words.specs.declared.values.form.Form.{Form}
use Rattle.rcpsp_words.specs.declared.values.form.Form.TheVariants.{Table, Chart, Csv}

-- the line of a sample, which CSV has not
abbrev pub sample_line : Form → ℕ → List ℕ
sample_line Csv sample = []
sample_line Table sample = codes "sample " ++ decimal sample ++ codes "\n"
sample_line Chart sample = codes "sample " ++ decimal sample ++ codes "\n"

-- the record of a sample: its number and its makespan
abbrev pub value_record : ℕ → ℕ → List ℕ
value_record sample value = decimal sample ++ codes "," ++ decimal value ++ codes "\n"

-- the records of values, which are those of the samples from a number on
abbrev pub value_records : ℕ → List ℕ → List ℕ
value_records sample [] = []
value_records sample (value ∷ values) =
    value_record sample value ++ value_records (sample + 1) values

-- a header, and the records of values
abbrev pub values_text : ℕ → List ℕ → List ℕ
values_text sample values = codes "sample,makespan\n" ++ value_records sample values
