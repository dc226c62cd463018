-- What a command answers: the text of the output, whether it tells a violation, and what was told on the
-- note before.
use Rattle.std.specs.Prelude.{ℕ, Bool, false, List, Option, None, if◌then◌else◌}
use Rattle.rcpsp_run.specs.declared.answer.Answer.{Answer as Made}
use Rattle.rcpsp_run.specs.declared.answer.LiveLines.{LiveLines}
use Rattle.rcpsp_run.specs.declared.status.Status.{Status}
use Rattle.rcpsp_run.specs.declared.status.Status.TheVariants.{Done, Violated, WriteFault}

-- the text of the output, whether it tells a violation, and the lines that told on the note how far its
-- schedule was booked
pub record Answer : Type 0 where
  pub text : List ℕ
  pub violated : Bool
  pub live : Option LiveLines

-- a text that tells no violation
abbrev pub told : List ℕ → Answer
told text = record { text = text; violated = false; live = None }

-- the same, after these lines
abbrev pub told_live : Option LiveLines → List ℕ → Answer
told_live lines text = record { text = text; violated = false; live = lines }

-- how a run ends whose output is written: a violation has a status of its own
abbrev pub ending : Answer → Status
ending answer = if answer.violated then Violated else Done

-- the same, where a put on the note failed before or not: the one that did is a write fault
abbrev pub ending_after : Bool → Answer → Status
ending_after failed answer = if failed then WriteFault else ending answer

-- how an answer of the code is seen
abbrev pub answer_view : Made → Answer
answer_view made = record { text = made.text.items; violated = made.violated; live = made.live }
