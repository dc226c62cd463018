-- The instance on its calendar.
use Rattle.std.specs.Prelude.{ℕ, ◌-◌, List, length, Option, None, Some, Result, Ok}
use Rattle.rc_instance.specs.declared.change.Change.{Change}
use Rattle.rc_instance.specs.Project.{Project, resource_count}
use Rattle.patterson_read.specs.Calendar.{read_calendar}
use Rattle.rcpsp_run.specs.declared.refusal.Refusal.{Refusal}
use Rattle.rc_instance.specs.Results.{◌>>=◌}
use Rattle.rcpsp_run.specs.Steps.Text.{text_at, in_text}

-- the last of the texts that were fetched
abbrev pub last_text : List (List ℕ) → List ℕ
last_text texts = text_at texts (length texts - 1)

-- an instance with these changes of its capacities
abbrev pub on_changes : Project → List Change → Project
on_changes project changes = record project { changes = changes }

-- an instance with the changes of its calendar, which is the last text; without one, as it is
unfoldable pub on_calendar : Option (List ℕ) → List (List ℕ) → Project → Result Project Refusal
on_calendar None texts project = Ok project
on_calendar (Some name) texts project = do
  changes ← in_text name (read_calendar (resource_count project) (last_text texts))
  Ok (on_changes project changes)
