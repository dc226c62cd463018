-- The command `schedule`.
use Rattle.std.specs.Prelude.{◌≡◌, ℕ, List, [], ◌∷◌, ◌++◌, Option, None, Some, Result, Ok}
use Rattle.rc_instance.specs.Project.{Project, activity_count}
use Rattle.rc_instance.specs.Schedule.{IsFeasible}
use Rattle.activity_net.specs.Ring.{shown_cycle}
use Rattle.gantt_table.specs.Table.{table_text}
use Rattle.gantt_table.specs.Chart.{chart_text}
use Rattle.gantt_table.specs.Csv.{csv_text}
use Rattle.rcpsp_words.specs.declared.commands.schedule.ScheduleCommand.{ScheduleCommand}
use Rattle.rcpsp_words.specs.declared.values.form.Form.{Form}
use Rattle.rcpsp_words.specs.declared.values.form.Form.TheVariants.{Table, Chart, Csv}
use Rattle.rcpsp_run.specs.declared.refusal.Refusal.{Refusal}
use Rattle.rc_instance.specs.Results.{◌>>=◌}
use Rattle.rcpsp_run.specs.Answer.{Answer, told_live}
use Rattle.rcpsp_run.specs.Live.{lines_for}
use Rattle.rcpsp_run.specs.Steps.Instance.{instance_in}
use Rattle.rcpsp_run.specs.Steps.List.{order_names, numbers_in, list_by}
use Rattle.rcpsp_run.specs.Steps.Calendar.{on_calendar}
use Rattle.rcpsp_run.specs.Steps.Network.{without_cycle}
use Rattle.rcpsp_run.specs.Steps.Descent.{descended_if}
use Rattle.rcpsp_run.specs.Steps.Schedule.{scheduled}
use Rattle.rcpsp_run.specs.Steps.Improvement.{improved_if}

-- the name of the calendar, where there is one
abbrev pub calendar_names : Option (List ℕ) → List (List ℕ)
calendar_names None = []
calendar_names (Some name) = name ∷ []

-- the names of its files: that of the instance, that of the list where it comes from a file, and
-- that of the calendar where there is one
abbrev pub schedule_names : ScheduleCommand → List (List ℕ)
schedule_names command = command.file ∷ (order_names command.order ++ calendar_names command.calendar)

-- a schedule in a form
abbrev pub text_in : Form → Project → List ℕ → List ℕ
text_in Table project starts = table_text project starts
text_in Chart project starts = chart_text project starts
text_in Csv project starts = csv_text project starts

-- the starts that a command gives to an instance: the list and the demands are tested, the list
-- descends, and its schedule is improved
unfoldable pub starts_of : ScheduleCommand → List ℕ → Project → Result (List ℕ) Refusal
starts_of command numbers project = do
  list ← list_by project command.order numbers
  descended ← descended_if command.descend project list
  starts ← scheduled project descended
  Ok (improved_if command.improve project starts)

-- the answer of these starts: the form of the command, after the lines that it asks for
abbrev pub schedule_told : ScheduleCommand → Project → List ℕ → Answer
schedule_told command project starts =
    told_live (lines_for command.live (activity_count project)) (text_in command.form project starts)

-- the texts are read, the calendar last, then the network, the list and the demands are tested
unfoldable pub schedule_answer : ScheduleCommand → List (List ℕ) → Result Answer Refusal
schedule_answer command texts = do
  without ← instance_in command.file command.format texts
  numbers ← numbers_in command.order texts
  project ← on_calendar command.calendar texts without
  acyclic ← without_cycle (shown_cycle project)
  starts ← starts_of command numbers project
  Ok (schedule_told command project starts)

-- it prints a feasible schedule of some instance, in the form of the command, after the lines that it asks
-- for
pub record PrintsSchedule (command : ScheduleCommand) (answer : Answer) : Type 0 where
  pub project : Project
  pub starts : List ℕ
  pub feasible : IsFeasible project starts
  pub shown : answer ≡ schedule_told command project starts
