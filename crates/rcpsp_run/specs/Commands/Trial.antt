-- The command `trial`.
use Rattle.std.specs.Prelude.{◌≡◌, ℕ, List, [], ◌++◌, sum, Result, Ok, codes}
use Rattle.std.specs.Fmt.{decimal}
use Rattle.rc_instance.specs.Project.{Project, activity_count, resource_count}
use Rattle.rc_instance.specs.Schedule.{makespan, serial_schedule}
use Rattle.time_windows.specs.CapacityBound.{capacity_bound_of}
use Rattle.time_windows.specs.Windows.{critical_of}
use Rattle.priority_rules.specs.Rules.{rule_list}
use Rattle.trial_instance.specs.Trial.{trial_project}
use Rattle.rcpsp_words.specs.declared.commands.trial.TrialCommand.{TrialCommand}
use Rattle.rcpsp_run.specs.declared.refusal.Refusal.{Refusal}
use Rattle.rcpsp_run.specs.Answer.{Answer, told}

-- it has no files
abbrev pub trial_names : TrialCommand → List (List ℕ)
trial_names command = []

-- how many activities and resources there are
abbrev pub size_lines : Project → List ℕ
size_lines project =
    codes "activities " ++ decimal (activity_count project) ++ codes "\n"
    ++ codes "resources " ++ decimal (resource_count project) ++ codes "\n"

-- both lower bounds
abbrev pub bound_lines : Project → List ℕ
bound_lines project =
    codes "critical " ++ decimal (critical_of project) ++ codes "\n"
    ++ codes "capacity " ++ decimal (capacity_bound_of project) ++ codes "\n"

-- the makespan of a schedule, and the sum of all starts
abbrev pub schedule_lines : Project → List ℕ → List ℕ
schedule_lines project starts =
    codes "makespan " ++ decimal (makespan project starts) ++ codes "\n"
    ++ codes "starts " ++ decimal (sum starts) ++ codes "\n"

-- the summary of a schedule of the instance that a number makes
abbrev pub summary : ℕ → Project → List ℕ → List ℕ
summary number project starts =
    codes "trial " ++ decimal number ++ codes "\n"
    ++ size_lines project ++ bound_lines project ++ schedule_lines project starts

-- the instance that the words make
abbrev pub project_made : TrialCommand → Project
project_made command =
    trial_project command.number command.size.activities command.size.resources

-- the summary of the serial schedule of the rule's list
abbrev pub trial_text : TrialCommand → List ℕ
trial_text command = summary command.number (project_made command)
    (serial_schedule (project_made command) (rule_list (project_made command) command.rule))

-- it is refused only for want of memory
abbrev pub trial_answer : TrialCommand → Result Answer Refusal
trial_answer command = Ok (told (trial_text command))

-- it prints that summary
abbrev pub PrintsTrial : TrialCommand → Answer → Type 0
PrintsTrial command answer = answer ≡ told (trial_text command)
