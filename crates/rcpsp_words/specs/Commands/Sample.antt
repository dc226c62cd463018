-- The command `sample`.
use Rattle.std.specs.Prelude.{[], ◌∷◌, Option, None, Some, unwrap_or, codes, if◌then◌else◌}
use Rattle.rcpsp_words.specs.declared.commands.sample.SampleCommand.{SampleCommand}
use Rattle.rcpsp_words.specs.declared.values.shown.Shown.{Shown}
use Rattle.rcpsp_words.specs.Reading.{◌>>=◌}
use Rattle.rcpsp_words.specs.Gathered.{Given, only_word, file_format, number_given, has_flag, form_given, workers_given, live_given}
use Rattle.rcpsp_words.specs.Values.Name.{are_names}
use Rattle.rcpsp_words.specs.Values.Samples.{SampleRange, samples_of}
use Rattle.rcpsp_words.specs.Values.Shown.{shown_of}

-- the samples of `--from` and `--count`
unfoldable pub samples_given : Given → Option SampleRange
samples_given given = do
  from ← number_given given (codes "from")
  count ← number_given given (codes "count")
  samples_of from count

-- what `--all`, `--live`, `--improve` and `--as` show of them
unfoldable pub shown_given : Given → Option Shown
shown_given given = do
  all ← has_flag given (codes "all")
  live ← live_given given
  improve ← has_flag given (codes "improve")
  form ← form_given given (codes "as")
  shown_of all live improve form

-- one file; a seed, or else 1; a range of samples; how many workers try them; what is shown of them
unfoldable pub sample_of : Given → Option SampleCommand
sample_of given = do
  file ← only_word given.positional
  format ← file_format given file
  seed ← number_given given (codes "seed")
  samples ← samples_given given
  workers ← workers_given given
  shown ← shown_given given
  if are_names (Some file ∷ [])
      then Some (record {
        file = file;
        format = format;
        seed = unwrap_or seed 1;
        samples = samples;
        workers = workers;
        shown = shown;
      })
      else None
