-- The command `convert`.
use Rattle.std.specs.Prelude.{[], ◌∷◌, Option, None, Some, codes, if◌then◌else◌}
use Rattle.rcpsp_words.specs.declared.commands.convert.ConvertCommand.{ConvertCommand}
use Rattle.rcpsp_words.specs.Reading.{◌>>=◌}
use Rattle.rcpsp_words.specs.Gathered.{Given, only_word, file_format, format_given}
use Rattle.rcpsp_words.specs.Values.Name.{are_names}

-- one file, and the format to print it in, which has to be given
unfoldable pub convert_of : Given → Option ConvertCommand
convert_of given = do
  file ← only_word given.positional
  format ← file_format given file
  named ← format_given given (codes "to")
  to ← named
  if are_names (Some file ∷ [])
      then Some (record { file = file; format = format; to = to })
      else None
