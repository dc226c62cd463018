-- How an answer or a refusal ends a run.
use Rattle.std.specs.Prelude.{◌≡◌, ◌⊎◌, ℕ, Bool, true, false, List}
use Rattle.rc_edge.specs.Faults.{Rose}
use Rattle.rc_edge.specs.Sink.{Gains, GainsPrefix}
use Rattle.rcpsp_run.specs.declared.refusal.Refusal.{Refusal}
use Rattle.rcpsp_run.specs.declared.status.Status.{Status}
use Rattle.rcpsp_run.specs.declared.status.Status.TheVariants as status
use Rattle.rcpsp_run.specs.Answer.{Answer, ending_after}
use Rattle.rcpsp_run.specs.Refusal.{status_of, line_of, write_line, memory_line}
use Rattle.rcpsp_run.specs.Sinks.{SinkAt, Tells}

-- a note has taken a line, or nothing where a put on it failed before
pub record TellsUnless (failed : Bool) (before after : SinkAt) (line : List ℕ) : Type 0 where
  pub tells : failed ≡ false → Tells before after line
  pub still : failed ≡ true → after ≡ before

-- an output has taken a text whole
pub record TakesWhole (before after : SinkAt) (text : List ℕ) : Type 0 where
  pub stands : after.faults ≡ before.faults
  pub gained : Gains before.held after.held text

-- an output has taken a prefix of a text, and then a put failed
pub record TakesPart (before after : SinkAt) (text : List ℕ) : Type 0 where
  pub rose : Rose before.faults after.faults
  pub gained : GainsPrefix before.held after.held text

-- the text of an answer was put on the output: whole, and then the note is as before; or a prefix, and then
-- the note was told
abbrev pub IsWritten : Answer → Bool → SinkAt → SinkAt → SinkAt → SinkAt → Status → Type 0
IsWritten answer failed out out' noted noted' ended =
    ((ended ≡ ending_after failed answer) × TakesWhole out out' answer.text × (noted' ≡ noted))
    ⊎ ((ended ≡ status.WriteFault) × TakesPart out out' answer.text
    × TellsUnless failed noted noted' write_line)

-- the line of a refusal was put on the note; or there was no memory for it, and that was told
abbrev pub IsSaid : Refusal → Bool → SinkAt → SinkAt → Status → Type 0
IsSaid refusal failed noted noted' ended =
    ((ended ≡ status_of refusal) × TellsUnless failed noted noted' (line_of refusal))
    ⊎ ((ended ≡ status.Memory) × TellsUnless failed noted noted' memory_line)
