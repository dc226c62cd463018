-- What each command does, a file for each.
pub mod Schedule
pub mod Parallel
pub mod Sample
pub mod Check
pub mod Convert
pub mod Windows
pub mod Trial
use Rattle.std.specs.Prelude.{ℕ, List, Result}
use Rattle.rcpsp_words.specs.declared.commands.Command.{Command as Said}
use Rattle.rcpsp_words.specs.declared.commands.Command.TheVariants as command
use Rattle.rcpsp_run.specs.declared.refusal.Refusal.{Refusal}
use Rattle.rcpsp_run.specs.Answer.{Answer}
use Rattle.rcpsp_run.specs.Commands.Schedule.{schedule_names, schedule_answer, PrintsSchedule}
use Rattle.rcpsp_run.specs.Commands.Parallel.{parallel_names, parallel_answer, PrintsParallel}
use Rattle.rcpsp_run.specs.Commands.Sample.{sample_names, sample_answer, PrintsSample}
use Rattle.rcpsp_run.specs.Commands.Check.{check_names, check_answer, PrintsCheck}
use Rattle.rcpsp_run.specs.Commands.Convert.{convert_names, convert_answer, PrintsConverted}
use Rattle.rcpsp_run.specs.Commands.Windows.{windows_names, windows_answer, PrintsWindows}
use Rattle.rcpsp_run.specs.Commands.Trial.{trial_names, trial_answer, PrintsTrial}

-- the names of the files of a command, in the order in which they are fetched
abbrev pub command_names : Said → List (List ℕ)
command_names (command.Schedule said) = schedule_names said
command_names (command.Parallel said) = parallel_names said
command_names (command.Sample said) = sample_names said
command_names (command.Check said) = check_names said
command_names (command.Convert said) = convert_names said
command_names (command.Windows said) = windows_names said
command_names (command.Trial said) = trial_names said

-- what a command makes of the texts of its files: its answer, or the first refusal
abbrev pub answer_of : Said → List (List ℕ) → Result Answer Refusal
answer_of (command.Schedule said) texts = schedule_answer said texts
answer_of (command.Parallel said) texts = parallel_answer said texts
answer_of (command.Sample said) texts = sample_answer said texts
answer_of (command.Check said) texts = check_answer said texts
answer_of (command.Convert said) texts = convert_answer said texts
answer_of (command.Windows said) texts = windows_answer said texts
answer_of (command.Trial said) texts = trial_answer said

-- what a command prints, whatever the files hold
abbrev pub IsPrintedBy : Said → Answer → Type 0
IsPrintedBy (command.Schedule said) answer = PrintsSchedule said answer
IsPrintedBy (command.Parallel said) answer = PrintsParallel said answer
IsPrintedBy (command.Sample said) answer = PrintsSample said answer
IsPrintedBy (command.Check said) answer = PrintsCheck said answer
IsPrintedBy (command.Convert said) answer = PrintsConverted said answer
IsPrintedBy (command.Windows said) answer = PrintsWindows said answer
IsPrintedBy (command.Trial said) answer = PrintsTrial said answer
