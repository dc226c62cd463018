-- The command `windows`.
use Rattle.std.specs.Prelude.{◌≡◌, ℕ, List, [], ◌∷◌, None, Result, Ok}
use Rattle.rc_instance.specs.Project.{Project}
use Rattle.activity_net.specs.Ring.{shown_cycle}
use Rattle.gantt_table.specs.Windows.{window_text}
use Rattle.rcpsp_words.specs.declared.commands.windows.WindowsCommand.{WindowsCommand}
use Rattle.rcpsp_run.specs.declared.refusal.Refusal.{Refusal}
use Rattle.rc_instance.specs.Results.{◌>>=◌}
use Rattle.rcpsp_run.specs.Answer.{Answer, told}
use Rattle.rcpsp_run.specs.Steps.Instance.{instance_in}
use Rattle.rcpsp_run.specs.Steps.Network.{without_cycle}

-- the name of its file, that of the instance
abbrev pub windows_names : WindowsCommand → List (List ℕ)
windows_names command = command.file ∷ []

-- the instance is read, then the network is tested
unfoldable pub windows_answer : WindowsCommand → List (List ℕ) → Result Answer Refusal
windows_answer command texts = do
  project ← instance_in command.file command.format texts
  acyclic ← without_cycle (shown_cycle project)
  Ok (told (window_text project))

-- it prints the windows of some instance without a cycle
abbrev pub PrintsWindows : WindowsCommand → Answer → Type 0
PrintsWindows command answer =
    (project : Project) × (shown_cycle project ≡ None) × (answer ≡ told (window_text project))
