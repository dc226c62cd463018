-- The lines that the note gains while workers book.
use Rattle.std.specs.Prelude.{◌≡◌, ◌⊎◌, ℕ, ◌+◌, ◌<◌, Bool, true, false, List, [], ◌∷◌, ◌++◌, length}
use Rattle.std.specs.Prelude.{Option, None, Some, Result, IfOk, IfErr}
use Rattle.std.specs.Option.{option_map}
use Rattle.worker_run.specs.Lines.{report_lines, AreCounts}
use Rattle.worker_run.specs.Told.{TellsRun}
use Rattle.rcpsp_words.specs.declared.commands.Command.{Command}
use Rattle.rcpsp_words.specs.declared.commands.Command.TheVariants.{Schedule, Sample}
use Rattle.rcpsp_words.specs.declared.values.shown.Shown.{Shown}
use Rattle.rcpsp_words.specs.declared.values.shown.Shown.TheVariants.{Best, All}
use Rattle.rcpsp_words.specs.declared.words.Options.{Options}
use Rattle.rcpsp_run.specs.declared.answer.LiveLines.{LiveLines}
use Rattle.rcpsp_run.specs.declared.refusal.Refusal.{Refusal}
use Rattle.rcpsp_run.specs.declared.refusal.Refusal.TheVariants.{Memory}
use Rattle.rcpsp_run.specs.Refusal.{write_line}
use Rattle.rcpsp_run.specs.Sinks.{SinkAt, Tells}

-- how often it is told how far the booking of the best sample has come, where that is asked for
abbrev pub live_shown : Shown → Option ℕ
live_shown (Best live improve form) = live
live_shown All = None

-- how often a command tells how far it has come, where that is asked for
abbrev pub live_asked : Command → Option ℕ
live_asked (Schedule said) = said.live
live_asked (Sample said) = live_shown said.shown
live_asked _ = None

-- the same, of the options of the words
abbrev pub asked_by : Option Options → Option ℕ
asked_by None = None
asked_by (Some options) = live_asked options.command

-- so many lines as are asked for, of so many positions
abbrev pub lines_for : Option ℕ → ℕ → Option LiveLines
lines_for asked positions = option_map (λ times. let lines : LiveLines =
    record { times = times; positions = positions } in lines) asked

-- the lines are those that are asked for, of some number of positions
abbrev pub AreAsked : Option ℕ → Option LiveLines → Type 0
AreAsked asked lines = option_map (λ (l : LiveLines). l.times) lines ≡ asked

-- a note has taken these lines and at last the one that all is booked; a prefix of them, where a put
-- failed. Where there are none, it is as before
abbrev pub TakesLive : Option LiveLines → SinkAt → SinkAt → Bool → Type 0
TakesLive None before after failed = (after ≡ before) × (failed ≡ false)
TakesLive (Some lines) before after failed = TellsRun lines.positions lines.times
    before.faults after.faults before.held after.held failed

-- a note has taken a line after these; where a put of one of these failed, nothing more
abbrev pub TakesAfter : Option LiveLines → SinkAt → SinkAt → List ℕ → Type 0
TakesAfter lines before after line = TakesLive lines before after true
    ⊎ ((mid : SinkAt) × TakesLive lines before mid false × Tells mid after line)

-- what a note has taken by the time of a refusal: where memory ran out, the lines that are asked for, or
-- none; and none where it is refused otherwise
abbrev pub RefusedLive : Option ℕ → SinkAt → SinkAt → Bool → Refusal → Type 0
RefusedLive asked before after failed Memory = (lines : Option LiveLines)
    × ((lines ≡ None) ⊎ AreAsked asked lines) × TakesLive lines before after failed
RefusedLive asked before after failed refusal = (after ≡ before) × (failed ≡ false)

-- what a note has taken by the time that a result is there: the lines of the value, or those at a refusal
pub record NotesLive {X : Type 0} (lines_of : X → Option LiveLines) (asked : Option ℕ)
    (before after : SinkAt) (failed : Bool) (result : Result X Refusal) : Type 0 where
  pub told : IfOk result (λ x. TakesLive (lines_of x) before after failed)
  pub refused : IfErr result (λ refusal. RefusedLive asked before after failed refusal)

-- so much room is more than these lines take, and the line of a write fault after them
abbrev pub HasRoomFor : Option LiveLines → ℕ → Type 0
HasRoomFor None room = Unit {0}
HasRoomFor (Some lines) room = (counts : List ℕ) → AreCounts lines.positions lines.times counts
    → length (report_lines lines.positions (counts ++ lines.positions ∷ [])) + length write_line < room
