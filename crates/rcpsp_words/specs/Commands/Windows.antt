-- The command `windows`.
use Rattle.std.specs.Prelude.{[], ◌∷◌, Option, None, Some, if◌then◌else◌}
use Rattle.rcpsp_words.specs.declared.commands.windows.WindowsCommand.{WindowsCommand}
use Rattle.rcpsp_words.specs.Reading.{◌>>=◌}
use Rattle.rcpsp_words.specs.Gathered.{Given, only_word, file_format}
use Rattle.rcpsp_words.specs.Values.Name.{are_names}

-- one file
unfoldable pub windows_of : Given → Option WindowsCommand
windows_of given = do
  file ← only_word given.positional
  format ← file_format given file
  if are_names (Some file ∷ []) then Some (record { file = file; format = format }) else None
