-- How many files end: what is refused, and how their output is written.
use Rattle.std.specs.Prelude.{◌≡◌, ◌⊎◌, Option, None, Some, Result, IfErr, IsErrOf}
use Rattle.rcpsp_words.specs.Many.{Many}
use Rattle.rcpsp_run.specs.declared.refusal.Refusal.{Refusal}
use Rattle.rcpsp_run.specs.declared.refusal.Refusal.TheVariants.{Words, Memory}
use Rattle.rcpsp_run.specs.declared.status.Status.{Status}
use Rattle.rcpsp_run.specs.declared.status.Status.TheVariants.{WriteFault, Memory as OutOfMemory}
use Rattle.rcpsp_run.specs.Causes.{IsOfFetch}
use Rattle.rcpsp_run.specs.Ending.{TakesWhole, TakesPart}
use Rattle.rcpsp_run.specs.Refusal.{status_of, line_of, write_line, memory_line}
use Rattle.rcpsp_run.specs.Sinks.{SinkAt, Tells}
use Rattle.batch_line.specs.Batch.{Joined}

-- the text was put on the output whole, and then the status is that of the files; or a prefix of
-- it, and then the note was told
abbrev pub IsWritten : Joined → SinkAt → SinkAt → SinkAt → SinkAt → Status → Type 0
IsWritten joined out out' noted noted' ended =
    ((ended ≡ joined.status) × TakesWhole out out' joined.text × (noted' ≡ noted))
    ⊎ ((ended ≡ WriteFault) × TakesPart out out' joined.text × Tells noted noted' write_line)

-- the line of a refusal was put on the note; or there was no memory for it, and that was told
abbrev pub IsSaid : Refusal → SinkAt → SinkAt → Status → Type 0
IsSaid refusal noted noted' ended =
    ((ended ≡ status_of refusal) × Tells noted noted' (line_of refusal))
    ⊎ ((ended ≡ OutOfMemory) × Tells noted noted' memory_line)

-- the words are refused where they say nothing, or there was no memory to read them; else a file
-- is, or there was no memory
abbrev pub RefusesMany : {T : Type 0} → Option Many → Result T Refusal → Type 0
RefusesMany None result = IsErrOf result Words ⊎ IsErrOf result Memory
RefusesMany (Some many) result = IfErr result IsOfFetch
