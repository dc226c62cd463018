-- What the batch program does with what the command line gives it.
use Rattle.std.specs.Prelude.{◌≡◌, ℕ, map, string_bytes, Option, None}
use Rattle.rcpsp_words.specs.Many.{Many, many_of}
use Rattle.rcpsp_run.specs.declared.program.Given.{Given}
use Rattle.rcpsp_run.specs.declared.program.Given.TheVariants.{Words, NotText, NoMemory}
use Rattle.rcpsp_run.specs.declared.refusal.Refusal.TheVariants as refusals
use Rattle.rcpsp_run.specs.declared.status.Status.{Status}
use Rattle.rcpsp_run.specs.declared.status.Status.TheVariants as statuses
use Rattle.rcpsp_run.specs.Refusal.{line_of}
use Rattle.rcpsp_run.specs.Run.{Ends, EndsStand}
use Rattle.rcpsp_run.specs.Sinks.{Tells}
use Rattle.rcpsp_run.specs.Status.{code_of}
use Rattle.batch_line.specs.Run.{Promises}

-- the files and the workers that the words give, where they are words that are understood
abbrev pub many_given : Given → Option Many
many_given (Words words) = many_of (map string_bytes words.items)
many_given NotText = None
many_given NoMemory = None

-- the exit code: that of a run of the words, 2 with its line where a word is no UTF-8, and 7
-- without a word where there was no memory for the words
abbrev pub Exits : Given → Ends → Ends → ℕ → Type 0
Exits (Words words) before after code = (ended : Status) × (code ≡ code_of ended)
    × Promises (map string_bytes words.items) before after ended
Exits NotText before after code = (code ≡ code_of statuses.Words)
    × Tells before.note after.note (line_of refusals.Words) × (after.out ≡ before.out)
    × (after.files ≡ before.files) × EndsStand before after
Exits NoMemory before after code = (code ≡ code_of statuses.Memory) × (after ≡ before)
