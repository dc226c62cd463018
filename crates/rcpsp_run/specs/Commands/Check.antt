-- The command `check`.
use Rattle.std.specs.Prelude.{◌≡◌, ℕ, List, [], ◌∷◌, None, Result, Ok, is_some}
use Rattle.rc_instance.specs.Project.{Project}
use Rattle.rc_instance.specs.Usage.{Booking, last_finish}
use Rattle.schedule_check.specs.Violation.{first_violation}
use Rattle.schedule_check.specs.Words.{check_line}
use Rattle.rcpsp_words.specs.declared.commands.check.CheckCommand.{CheckCommand}
use Rattle.rcpsp_run.specs.declared.refusal.Refusal.{Refusal}
use Rattle.rc_instance.specs.Results.{◌>>=◌}
use Rattle.rcpsp_run.specs.Answer.{Answer}
use Rattle.rcpsp_run.specs.Steps.Instance.{instance_in}
use Rattle.rcpsp_run.specs.Steps.Plan.{plan_in}

-- the names of its files: that of the instance, and that of the plan
abbrev pub check_names : CheckCommand → List (List ℕ)
check_names command = command.file ∷ command.plan ∷ []

-- the line of a check: the makespan, or the first violation
abbrev pub verdict : Project → List Booking → Answer
verdict project bookings = record {
  text = check_line (first_violation project bookings) (last_finish project bookings);
  violated = is_some (first_violation project bookings);
  live = None;
}

-- the instance is read, then the plan
unfoldable pub check_answer : CheckCommand → List (List ℕ) → Result Answer Refusal
check_answer command texts = do
  project ← instance_in command.file command.format texts
  bookings ← plan_in command.plan texts
  Ok (verdict project bookings)

-- it prints the check of some plan for some instance
abbrev pub PrintsCheck : CheckCommand → Answer → Type 0
PrintsCheck command answer =
    (project : Project) × (bookings : List Booking) × (answer ≡ verdict project bookings)
