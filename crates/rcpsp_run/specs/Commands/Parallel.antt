-- The command `parallel`.
use Rattle.std.specs.Prelude.{◌≡◌, ℕ, List, ◌∷◌, ◌++◌, Result, Ok}
use Rattle.rc_instance.specs.Project.{Project}
use Rattle.rc_instance.specs.Schedule.{IsFeasible}
use Rattle.activity_net.specs.Ring.{shown_cycle}
use Rattle.parallel_scheme.specs.NonDelay.{IsNonDelay}
use Rattle.rcpsp_words.specs.declared.commands.parallel.ParallelCommand.{ParallelCommand}
use Rattle.rcpsp_run.specs.declared.refusal.Refusal.{Refusal}
use Rattle.rc_instance.specs.Results.{◌>>=◌}
use Rattle.rcpsp_run.specs.Answer.{Answer, told}
use Rattle.rcpsp_run.specs.Steps.Instance.{instance_in}
use Rattle.rcpsp_run.specs.Steps.List.{order_names, numbers_in, list_by}
use Rattle.rcpsp_run.specs.Steps.Calendar.{on_calendar}
use Rattle.rcpsp_run.specs.Steps.Network.{without_cycle}
use Rattle.rcpsp_run.specs.Steps.Parallel.{parallel_scheduled}
use Rattle.rcpsp_run.specs.Commands.Schedule.{calendar_names, text_in}

-- the names of its files: that of the instance, that of the list where it comes from a file, and
-- that of the calendar where there is one
abbrev pub parallel_names : ParallelCommand → List (List ℕ)
parallel_names command = command.file ∷ (order_names command.order ++ calendar_names command.calendar)

-- the starts that the command gives to an instance: the list and the demands are tested
unfoldable pub parallel_starts : ParallelCommand → List ℕ → Project → Result (List ℕ) Refusal
parallel_starts command numbers project = do
  list ← list_by project command.order numbers
  parallel_scheduled project list

-- the texts are read, the calendar last, then the network, the list and the demands are tested
unfoldable pub parallel_answer : ParallelCommand → List (List ℕ) → Result Answer Refusal
parallel_answer command texts = do
  without ← instance_in command.file command.format texts
  numbers ← numbers_in command.order texts
  project ← on_calendar command.calendar texts without
  acyclic ← without_cycle (shown_cycle project)
  starts ← parallel_starts command numbers project
  Ok (told (text_in command.form project starts))

-- it prints a feasible schedule of some instance that lets nothing wait that could run, in the form
-- of the command
pub record PrintsParallel (command : ParallelCommand) (answer : Answer) : Type 0 where
  pub project : Project
  pub starts : List ℕ
  pub feasible : IsFeasible project starts
  pub non_delay : IsNonDelay project starts
  pub shown : answer ≡ told (text_in command.form project starts)
