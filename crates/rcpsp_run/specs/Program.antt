-- What the program does with what the command line gives it.
use Rattle.std.specs.Prelude.{◌≡◌, ℕ, map, string_bytes, Option, None}
use Rattle.rcpsp_words.specs.declared.words.Options.{Options}
use Rattle.rcpsp_words.specs.Words.{options_of}
use Rattle.rcpsp_run.specs.declared.program.Given.{Given}
use Rattle.rcpsp_run.specs.declared.program.Given.TheVariants.{Words, NotText, NoMemory}
use Rattle.rcpsp_run.specs.declared.refusal.Refusal.TheVariants as refusal
use Rattle.rcpsp_run.specs.declared.status.Status.{Status}
use Rattle.rcpsp_run.specs.declared.status.Status.TheVariants as status
use Rattle.rcpsp_run.specs.Refusal.{line_of}
use Rattle.rcpsp_run.specs.Run.{Ends, EndsStand, Promises, Unwritten}
use Rattle.rcpsp_run.specs.Sinks.{Tells}
use Rattle.rcpsp_run.specs.Status.{code_of}

-- the options that the words give, where they are words that are understood
abbrev pub options_given : Given → Option Options
options_given (Words words) = options_of (map string_bytes words.items)
options_given NotText = None
options_given NoMemory = None

-- the exit code: that of a run of the words, 2 with its line where a word is no UTF-8, and 7 without a word where
-- there was no memory for the words; `unwritten` says that the output is untouched
abbrev pub Exits : Given → Ends → Ends → Type 0 → ℕ → Type 0
Exits (Words words) before after unwritten code = (ended : Status) × (code ≡ code_of ended)
    × Promises (map string_bytes words.items) before after ended × Unwritten unwritten ended
Exits NotText before after unwritten code = (code ≡ code_of status.Words)
    × Tells before.note after.note (line_of refusal.Words) × EndsStand before after × unwritten
Exits NoMemory before after unwritten code = (code ≡ code_of status.Memory) × (after ≡ before) × unwritten
