-- What a calendar means for a schedule, each over all projects.
use Rattle.std.specs.Prelude.{◌≡◌, ℕ, List, [], Some, Ok, All}
use Rattle.rc_instance.specs.declared.change.Change.{Change}
use Rattle.rc_instance.specs.Project.{Project, IsActivity, IsResource, resource_count, capacity_at}
use Rattle.rc_instance.specs.Misfit.{HasNoMisfit}
use Rattle.rc_instance.specs.Schedule.{serial_schedule}
use Rattle.patterson_read.specs.Calendar.{read_calendar}
use Rattle.rcpsp_run.specs.Steps.Calendar.{last_text, on_changes, on_calendar}

-- a calendar without changes is no calendar
abbrev pub EmptyCalendarIsNone : Type 0
EmptyCalendarIsNone = (project : Project) (name : List ℕ) (texts : List (List ℕ))
    → project.changes ≡ []
    → read_calendar (resource_count project) (last_text texts) ≡ Ok []
    → on_calendar (Some name) texts project ≡ Ok project

-- two lists of changes give a project the same capacity in every period
abbrev pub GiveTheSame : Project → List Change → List Change → Type 0
GiveTheSame project changes others = (k p : ℕ) → IsResource project k
    → capacity_at (on_changes project changes) k p ≡ capacity_at (on_changes project others) k p

-- calendars that give the same capacity in every period give the same serial schedules
abbrev pub CapacitiesDecide : Type 0
CapacitiesDecide = (project : Project) (changes others : List Change) (order : List ℕ)
    → GiveTheSame project changes others
    → HasNoMisfit (on_changes project changes) → All (IsActivity project) order
    → serial_schedule (on_changes project changes) order
    ≡ serial_schedule (on_changes project others) order
