-- What a run of many files promises: the cause of each status, which status it is, what the output
-- and the note gain.
use Rattle.std.specs.Prelude.{◌≡◌, ◌≢◌, ◌⊎◌, ℕ, List, length, Option, None, Some, IfSome, Result, Ok, Err, IsOkAnd}
use Rattle.std.specs.Option.{option_map}
use Rattle.rc_edge.specs.Faults.{Rose, counted_on}
use Rattle.rc_edge.specs.Sink.{Gains, GainsPrefix}
use Rattle.rcpsp_words.specs.Many.{Many, many_of}
use Rattle.rcpsp_run.specs.declared.status.Status.{Status}
use Rattle.rcpsp_run.specs.declared.status.Status.TheVariants as statuses
use Rattle.rcpsp_run.specs.declared.refusal.Refusal.{Refusal}
use Rattle.rcpsp_run.specs.Causes.{FilesAt, FilesStand, FetchesAtMost, HasCause, Explains}
use Rattle.rcpsp_run.specs.Refusal.{status_of, line_of, write_line, memory_line}
use Rattle.rcpsp_run.specs.Run.{Ends, EndsStand, AreCalm}
use Rattle.rcpsp_run.specs.Sinks.{SinkAt, Tells}
use Rattle.batch_line.specs.Batch.{Joined, names_said, many_outcome}

-- a refusal with this status has its cause
abbrev pub IsRefused : List (List ℕ) → Ends → Ends → Status → Type 0
IsRefused names before after ended =
    (refusal : Refusal) × (status_of refusal ≡ ended)
    × HasCause names before.files after.files refusal

-- a status has its cause: a write fault comes where the count of the output rose; a file that
-- cannot be read or is too large shows it by its own count; and at each other status no count rose.
-- Want of memory may come at any place. Two statuses never come
abbrev pub IsCaused : List (List ℕ) → Ends → Ends → Status → Type 0
IsCaused names before after statuses.ReadFault = IsRefused names before after statuses.ReadFault
IsCaused names before after statuses.TooLarge = IsRefused names before after statuses.TooLarge
IsCaused names before after statuses.Memory = Unit {0}
IsCaused names before after statuses.WriteFault =
    FilesStand before.files after.files × Rose before.out.faults after.out.faults
IsCaused names before after statuses.BadList = ⊥
IsCaused names before after statuses.Violated = ⊥
IsCaused names before after _ =
    FilesStand before.files after.files × (after.out.faults ≡ before.out.faults)

-- `Words` comes exactly where the words say nothing; memory may run out in its place
abbrev pub IsOfWords : Option Many → Status → Type 0
IsOfWords None ended = (ended ≡ statuses.Words) ⊎ (ended ≡ statuses.Memory)
IsOfWords (Some many) ended = ended ≢ statuses.Words

-- how many fetches are made: none where the words say nothing, one for each name where all files
-- are there, and else no more
abbrev pub MakesFetches : List (List ℕ) → FilesAt → FilesAt → Status → Type 0
MakesFetches names before after statuses.Words = after.fetches ≡ before.fetches
MakesFetches names before after statuses.ReadFault = FetchesAtMost (length names) before after
MakesFetches names before after statuses.TooLarge = FetchesAtMost (length names) before after
MakesFetches names before after statuses.Memory = FetchesAtMost (length names) before after
MakesFetches names before after _ = after.fetches ≡ counted_on before.fetches (length names)

-- the status is that of the outcome, or memory ran out, or the output could not be written
abbrev pub Agrees : Result Joined Refusal → Status → Type 0
Agrees outcome statuses.Memory = Unit {0}
Agrees (Ok joined) statuses.WriteFault = Unit {0}
Agrees (Ok joined) ended = ended ≡ joined.status
Agrees (Err refusal) ended = ended ≡ status_of refusal

-- the same where nothing kept the output from being written
abbrev pub AgreesInFull : Result Joined Refusal → Status → Type 0
AgreesInFull outcome statuses.Memory = Unit {0}
AgreesInFull (Ok joined) ended = ended ≡ joined.status
AgreesInFull (Err refusal) ended = ended ≡ status_of refusal

-- nothing is put on the output before all of it is made. Then, where the files tell their map, each
-- name is there within the limit, and the output gains the outcome's text, at the outcome's status;
-- or a prefix, where it could not be written
abbrev pub OutputGains : Option (Result Joined Refusal) → SinkAt → SinkAt → Status → Type 0
OutputGains outcome before after statuses.Words = after ≡ before
OutputGains outcome before after statuses.ReadFault = after ≡ before
OutputGains outcome before after statuses.TooLarge = after ≡ before
OutputGains outcome before after statuses.Memory = after ≡ before
OutputGains outcome before after statuses.WriteFault =
    IfSome outcome (λ given. IsOkAnd given
    (λ joined. GainsPrefix before.held after.held joined.text))
OutputGains outcome before after ended =
    IfSome outcome (λ given. IsOkAnd given (λ joined.
    (ended ≡ joined.status) × Gains before.held after.held joined.text))

-- the note gains the line of a refusal, which is the outcome's where the files tell their map; that
-- of a write fault or of want of memory; and else nothing
abbrev pub IsNoted : List (List ℕ) → Option (Result Joined Refusal) → Ends → Ends → Status → Type 0
IsNoted names outcome before after ended =
    (refusal : Refusal) × (status_of refusal ≡ ended)
    × HasCause names before.files after.files refusal
    × Tells before.note after.note (line_of refusal) × IfSome outcome (Explains refusal)

abbrev pub NoteGains : List (List ℕ) → Option (Result Joined Refusal) → Ends → Ends → Status
    → Type 0
NoteGains names outcome before after statuses.Words =
    IsNoted names outcome before after statuses.Words
NoteGains names outcome before after statuses.ReadFault =
    IsNoted names outcome before after statuses.ReadFault
NoteGains names outcome before after statuses.TooLarge =
    IsNoted names outcome before after statuses.TooLarge
NoteGains names outcome before after statuses.Memory = Tells before.note after.note memory_line
NoteGains names outcome before after statuses.WriteFault = Tells before.note after.note write_line
NoteGains names outcome before after _ = after.note ≡ before.note

-- what a run of these words promises of what it reads and writes, before and after, and of its
-- status
pub record Promises (words : List (List ℕ)) (before after : Ends) (ended : Status) : Type 0 where
  -- each status has its cause
  pub causes : IsCaused (names_said (many_of words)) before after ended
  -- `Words` comes exactly where the words say nothing
  pub understood : IsOfWords (many_of words) ended
  -- each file is fetched once, in order of the names, and none that the words do not name
  pub fetches : MakesFetches (names_said (many_of words)) before.files after.files ended
  -- where the files tell their map and no count of a given name rose, the status is the outcome's,
  -- or memory ran out, or the output could not be written
  pub agrees : IfSome before.files.told (λ pairs.
      AreCalm (names_said (many_of words)) before.files after.files
      → Agrees (many_outcome words pairs) ended)
  -- where besides the count of the output did not rise, the status is the outcome's, or memory ran
  -- out
  pub complete : IfSome before.files.told (λ pairs.
      AreCalm (names_said (many_of words)) before.files after.files
      → (Rose before.out.faults after.out.faults → ⊥)
      → AgreesInFull (many_outcome words pairs) ended)
  -- the output gains the outcome's text, or a prefix of it where a put failed, and else nothing
  pub output : OutputGains (option_map (many_outcome words) before.files.told) before.out after.out
      ended
  -- the note gains the line of the status where the files were not all read, or the output not
  -- written
  pub notes : NoteGains (names_said (many_of words))
      (option_map (many_outcome words) before.files.told) before after ended
  -- what a caller of generic code rests on stands
  pub stand : EndsStand before after
