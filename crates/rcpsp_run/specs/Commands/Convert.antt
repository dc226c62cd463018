-- The command `convert`.
use Rattle.std.specs.Prelude.{◌≡◌, ℕ, List, [], ◌∷◌, Result, Ok}
use Rattle.rc_instance.specs.Project.{Project}
use Rattle.rc_instance.specs.Calendar.{IsWithinLimits}
use Rattle.patterson_read.specs.Written.{rcp_text}
use Rattle.psplib_read.specs.Written.{sm_text}
use Rattle.rcpsp_words.specs.declared.commands.convert.ConvertCommand.{ConvertCommand}
use Rattle.rcpsp_words.specs.declared.values.format.Format.{Format}
use Rattle.rcpsp_words.specs.declared.values.format.Format.TheVariants.{Sm, Rcp}
use Rattle.rcpsp_run.specs.declared.refusal.Refusal.{Refusal}
use Rattle.rc_instance.specs.Results.{◌>>=◌}
use Rattle.rcpsp_run.specs.Answer.{Answer, told}
use Rattle.rcpsp_run.specs.Steps.Instance.{instance_in}

-- the name of its file, that of the instance
abbrev pub convert_names : ConvertCommand → List (List ℕ)
convert_names command = command.file ∷ []

-- an instance in a format
abbrev pub written : Format → Project → List ℕ
written Sm project = sm_text project
written Rcp project = rcp_text project

-- the instance is read
unfoldable pub convert_answer : ConvertCommand → List (List ℕ) → Result Answer Refusal
convert_answer command texts = do
  project ← instance_in command.file command.format texts
  Ok (told (written command.to project))

-- it prints the text of some instance within the limits, in the format of the command
abbrev pub PrintsConverted : ConvertCommand → Answer → Type 0
PrintsConverted command answer =
    (project : Project) × IsWithinLimits project × (answer ≡ told (written command.to project))
