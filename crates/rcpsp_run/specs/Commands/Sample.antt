-- The command `sample`.
use Rattle.std.specs.Prelude.{◌≡◌, ℕ, Bool, List, [], ◌∷◌, ◌++◌, None, Result, Ok}
use Rattle.rc_instance.specs.Project.{Project, activity_count}
use Rattle.rc_instance.specs.Misfit.{HasNoMisfit, first_misfit}
use Rattle.rc_instance.specs.Schedule.{serial_schedule}
use Rattle.activity_net.specs.Ring.{shown_cycle}
use Rattle.key_sampling.specs.Samples.{sample_list, sample_values}
use Rattle.key_sampling.specs.Best.{best_of}
use Rattle.rcpsp_words.specs.declared.commands.sample.SampleCommand.{SampleCommand}
use Rattle.rcpsp_words.specs.declared.values.form.Form.{Form}
use Rattle.rcpsp_words.specs.declared.values.shown.Shown.{Shown}
use Rattle.rcpsp_words.specs.declared.values.shown.Shown.TheVariants.{Best, All}
use Rattle.rcpsp_words.specs.Values.Samples.{SampleRange}
use Rattle.rcpsp_run.specs.declared.refusal.Refusal.{Refusal}
use Rattle.rc_instance.specs.Results.{◌>>=◌}
use Rattle.rcpsp_run.specs.Answer.{Answer, told_live}
use Rattle.rcpsp_run.specs.Live.{lines_for, live_shown}
use Rattle.rcpsp_run.specs.Commands.Schedule.{text_in}
use Rattle.rcpsp_run.specs.Steps.Instance.{instance_in}
use Rattle.rcpsp_run.specs.Steps.Network.{without_cycle}
use Rattle.rcpsp_run.specs.Steps.Schedule.{without_misfit}
use Rattle.rcpsp_run.specs.Steps.Improvement.{improved_if}
use Rattle.rcpsp_run.specs.Steps.Samples.{sample_line, values_text}

-- the name of its file, that of the instance
abbrev pub sample_names : SampleCommand → List (List ℕ)
sample_names command = command.file ∷ []

-- the schedule of a sample, improved or not
abbrev pub sample_starts : Bool → Project → ℕ → ℕ → List ℕ
sample_starts improve project seed sample =
    improved_if improve project (serial_schedule project (sample_list project seed sample))

-- the schedule of a sample in a form, and the line of the sample
abbrev pub sample_text : Bool → Form → Project → ℕ → ℕ → List ℕ
sample_text improve form project seed sample =
    text_in form project (sample_starts improve project seed sample) ++ sample_line form sample

-- what is shown of samples: the best one, improved or not, in a form; or the makespan of each
abbrev pub samples_text : Shown → Project → ℕ → SampleRange → List ℕ
samples_text (Best live improve form) project seed samples =
    sample_text improve form project seed (best_of project seed samples.from samples.count).sample
samples_text All project seed samples =
    values_text samples.from (sample_values project seed samples.from samples.count)

-- the answer of an instance: what is shown of its samples, after the lines that are asked for
abbrev pub samples_told : SampleCommand → Project → Answer
samples_told command project =
    told_live (lines_for (live_shown command.shown) (activity_count project))
    (samples_text command.shown project command.seed command.samples)

-- the instance is read, then the network and the demands are tested
unfoldable pub sample_answer : SampleCommand → List (List ℕ) → Result Answer Refusal
sample_answer command texts = do
  project ← instance_in command.file command.format texts
  acyclic ← without_cycle (shown_cycle project)
  fits ← without_misfit (first_misfit project)
  Ok (samples_told command project)

-- it prints samples of some instance that has neither a cycle nor a misfit, after the lines that it
-- asks for
pub record PrintsSample (command : SampleCommand) (answer : Answer) : Type 0 where
  pub project : Project
  pub acyclic : shown_cycle project ≡ None
  pub fits : HasNoMisfit project
  pub shown : answer ≡ samples_told command project
