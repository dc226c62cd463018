-- What a run promises: the cause of each status, which status it is, what the output and the note gain.
use Rattle.std.specs.Prelude.{◌≡◌, ◌≢◌, ◌⊎◌, ℕ, List, length, All}
use Rattle.std.specs.Prelude.{false, Option, None, Some, IsSome, IfSome, Result, Ok, Err, IsOkAnd}
use Rattle.std.specs.Option.{option_map}
use Rattle.rc_edge.specs.Faults.{Rose, counted_on}
use Rattle.rc_edge.specs.Sink.{Gains, GainsPrefix}
use Rattle.rcpsp_run.specs.declared.answer.LiveLines.{LiveLines}
use Rattle.rcpsp_run.specs.declared.status.Status.{Status}
use Rattle.rcpsp_run.specs.declared.status.Status.TheVariants.{Done, Violated, WriteFault, Words, Memory}
use Rattle.rcpsp_words.specs.declared.words.Options.{Options}
use Rattle.rcpsp_words.specs.Words.{options_of}
use Rattle.rcpsp_run.specs.declared.refusal.Refusal.{Refusal}
use Rattle.rcpsp_run.specs.Answer.{Answer, ending}
use Rattle.rcpsp_run.specs.Commands.{IsPrintedBy}
use Rattle.rcpsp_run.specs.Refusal.{status_of, line_of, write_line, memory_line}
use Rattle.rcpsp_run.specs.Outcome.{names_of, outcome}
use Rattle.rcpsp_run.specs.Sinks.{SinkAt, Tells}
use Rattle.rcpsp_run.specs.Live.{asked_by, AreAsked, TakesLive, TakesAfter}
use Rattle.rcpsp_run.specs.Causes.{FilesAt, FilesStand, FetchesAtMost, HasCause, Explains}

-- what a run reads and writes, at one moment
pub record Ends : Type 0 where
  pub files : FilesAt
  pub out : SinkAt
  pub note : SinkAt

-- what a caller of generic code rests on stands
pub record EndsStand (before after : Ends) : Type 0 where
  pub told : after.files.told ≡ before.files.told
  pub failing : after.files.failing ≡ before.files.failing
  pub out_failing : after.out.failing ≡ before.out.failing
  pub out_room : after.out.room ≡ before.out.room
  pub note_failing : after.note.failing ≡ before.note.failing
  pub note_room : after.note.room ≡ before.note.room

-- no count of faults rose
abbrev pub AllStand : Ends → Ends → Type 0
AllStand before after = FilesStand before.files after.files
    × (after.out.faults ≡ before.out.faults) × (after.note.faults ≡ before.note.faults)

-- lines were asked for, and the count of the note rose
abbrev pub LiveRose : Option ℕ → SinkAt → SinkAt → Type 0
LiveRose asked before after = IsSome asked × Rose before.faults after.faults

-- a status has its cause: `Done` and `Violated` come where no count rose at all, a write fault where the count of
-- the output rose, or that of the note while it was told how far the workers have come, and each other status by a
-- refusal that has its cause; want of memory may come at any place
abbrev pub IsCaused : List (List ℕ) → Option ℕ → Ends → Ends → Status → Type 0
IsCaused names asked before after Done = AllStand before after
IsCaused names asked before after Violated = AllStand before after
IsCaused names asked before after WriteFault = FilesStand before.files after.files
    × (Rose before.out.faults after.out.faults ⊎ LiveRose asked before.note after.note)
IsCaused names asked before after Memory = Unit {0}
IsCaused names asked before after status =
    (refusal : Refusal) × (status_of refusal ≡ status) × HasCause names before.files after.files refusal

-- `Words` comes exactly where the words have no options; memory may run out in its place
abbrev pub IsOfWords : Option Options → Status → Type 0
IsOfWords None status = (status ≡ Words) ⊎ (status ≡ Memory)
IsOfWords (Some options) status = status ≢ Words

-- how many fetches are made: one for each name where the output is made, none where the words are not
-- understood, and else no more than one for each name
abbrev pub MakesFetches : List (List ℕ) → FilesAt → FilesAt → Status → Type 0
MakesFetches names before after Done = after.fetches ≡ counted_on before.fetches (length names)
MakesFetches names before after Violated = after.fetches ≡ counted_on before.fetches (length names)
MakesFetches names before after WriteFault = after.fetches ≡ counted_on before.fetches (length names)
MakesFetches names before after Words = after.fetches ≡ before.fetches
MakesFetches names before after status = FetchesAtMost (length names) before after

-- no count of faults of a name that the words give rose
abbrev pub AreCalm : List (List ℕ) → FilesAt → FilesAt → Type 0
AreCalm names before after = All (λ name. Rose (before.faults name) (after.faults name) → ⊥) names

-- the status is that of the outcome, or memory ran out, or an output could not be written
abbrev pub Agrees : Result Answer Refusal → Status → Type 0
Agrees outcome Memory = Unit {0}
Agrees (Ok answer) WriteFault = Unit {0}
Agrees (Ok answer) status = status ≡ ending answer
Agrees (Err refusal) status = status ≡ status_of refusal

-- the same where nothing kept the output from being written
abbrev pub AgreesInFull : Result Answer Refusal → Status → Type 0
AgreesInFull outcome Memory = Unit {0}
AgreesInFull (Ok answer) status = status ≡ ending answer
AgreesInFull (Err refusal) status = status ≡ status_of refusal

-- the output gains a prefix of a text, and all of it where its count did not rise
pub record GainsPart (before after : SinkAt) (text : List ℕ) : Type 0 where
  pub part : GainsPrefix before.held after.held text
  pub whole : (Rose before.faults after.faults → ⊥) → Gains before.held after.held text

-- where the files tell their map, the output gains the outcome's text; or a prefix of it where a put on it
-- failed, and all of it where only one on the note did; at every other status it gains nothing
abbrev pub OutputGains : Option (Result Answer Refusal) → SinkAt → SinkAt → Status → Type 0
OutputGains outcome before after Done =
    IfSome outcome (λ given. IsOkAnd given (λ answer. Gains before.held after.held answer.text))
OutputGains outcome before after Violated =
    IfSome outcome (λ given. IsOkAnd given (λ answer. Gains before.held after.held answer.text))
OutputGains outcome before after WriteFault =
    IfSome outcome (λ given. IsOkAnd given (λ answer. GainsPart before after answer.text))
OutputGains outcome before after status = after.held ≡ before.held

-- what is so at each status at which nothing is put on the output
abbrev pub Unwritten : Type 0 → Status → Type 0
Unwritten so Done = Unit {0}
Unwritten so Violated = Unit {0}
Unwritten so WriteFault = Unit {0}
Unwritten so status = so

-- the output gains what the command prints, at this status and whatever the files tell
abbrev pub Prints : Option Options → SinkAt → SinkAt → Status → Type 0
Prints None before after status = ⊥
Prints (Some options) before after status = (answer : Answer)
    × IsPrintedBy options.command answer × (status ≡ ending answer) × Gains before.held after.held answer.text

-- where a run writes its output, that is what its command prints
abbrev pub PrintsOutput : Option Options → SinkAt → SinkAt → Status → Type 0
PrintsOutput options before after Done = Prints options before after Done
PrintsOutput options before after Violated = Prints options before after Violated
PrintsOutput options before after status = Unit {0}

-- where the files tell their map, these are the lines of the outcome's answer
abbrev pub AreOutcomes : Option (Result Answer Refusal) → Option LiveLines → Type 0
AreOutcomes outcome lines =
    IfSome outcome (λ given. IsOkAnd given (λ answer. answer.live ≡ lines))

-- where lines are asked for that tell how far the workers have come, the note gains them, and nothing else at
-- `Done`; at `Violated` it gains nothing. After them comes the line of a write fault or of want of memory, unless a
-- put failed before. At every other status it gains the line of a refusal which has its cause, and which is the
-- outcome's where the files tell their map
abbrev pub NoteGains : List (List ℕ) → Option ℕ → Option (Result Answer Refusal) → Ends → Ends → Status → Type 0
NoteGains names asked outcome before after Done = (lines : Option LiveLines)
    × AreAsked asked lines × AreOutcomes outcome lines × TakesLive lines before.note after.note false
NoteGains names asked outcome before after Violated = after.note.held ≡ before.note.held
NoteGains names asked outcome before after WriteFault = (lines : Option LiveLines)
    × AreAsked asked lines × AreOutcomes outcome lines × TakesAfter lines before.note after.note write_line
NoteGains names asked outcome before after Memory = (lines : Option LiveLines)
    × ((lines ≡ None) ⊎ AreAsked asked lines) × TakesAfter lines before.note after.note memory_line
NoteGains names asked outcome before after status =
    (refusal : Refusal) × (status_of refusal ≡ status) × HasCause names before.files after.files refusal
    × Tells before.note after.note (line_of refusal) × IfSome outcome (Explains refusal)

-- what a run of these words promises of what it reads and writes, before and after, and of its status
pub record Promises (words : List (List ℕ)) (before after : Ends) (status : Status) : Type 0 where
  -- each status has its cause
  pub causes : IsCaused (names_of (options_of words)) (asked_by (options_of words)) before after status
  -- `Words` comes exactly where the words are not understood
  pub understood : IsOfWords (options_of words) status
  -- no file is fetched twice, and none that the words do not name
  pub fetches : MakesFetches (names_of (options_of words)) before.files after.files status
  -- where the files tell their map and no count of a given name rose, the status is the outcome's, or memory ran
  -- out, or the output could not be written
  pub agrees : IfSome before.files.told (λ pairs.
      AreCalm (names_of (options_of words)) before.files after.files → Agrees (outcome words pairs) status)
  -- where besides the count of the output did not rise, nor that of the note where it is told how far the workers
  -- have come, the status is the outcome's, or memory ran out
  pub complete : IfSome before.files.told (λ pairs.
      AreCalm (names_of (options_of words)) before.files after.files
      → (Rose before.out.faults after.out.faults → ⊥)
      → (LiveRose (asked_by (options_of words)) before.note after.note → ⊥)
      → AgreesInFull (outcome words pairs) status)
  -- the output gains the outcome's text, or a prefix of it where a put on it failed, and else nothing
  pub output : OutputGains (option_map (outcome words) before.files.told) before.out after.out status
  -- whatever the files tell, that is what the command prints of some instance
  pub prints : PrintsOutput (options_of words) before.out after.out status
  -- the note gains the lines that are asked for, and the line of the status where the output was not written
  pub notes : NoteGains (names_of (options_of words)) (asked_by (options_of words))
      (option_map (outcome words) before.files.told) before after status
  -- what a caller of generic code rests on stands
  pub stand : EndsStand before after
