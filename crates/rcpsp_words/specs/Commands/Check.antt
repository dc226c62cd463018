-- The command `check`.
use Rattle.std.specs.Prelude.{[], ◌∷◌, Option, None, Some, if◌then◌else◌}
use Rattle.rcpsp_words.specs.declared.commands.check.CheckCommand.{CheckCommand}
use Rattle.rcpsp_words.specs.Reading.{◌>>=◌}
use Rattle.rcpsp_words.specs.Gathered.{Given, two_words, file_format}
use Rattle.rcpsp_words.specs.Values.Name.{are_names}

-- the file of an instance, and the file of a plan
unfoldable pub check_of : Given → Option CheckCommand
check_of given = do
  files ← two_words given.positional
  format ← file_format given files.0
  if are_names (Some files.0 ∷ Some files.1 ∷ [])
      then Some (record { file = files.0; format = format; plan = files.1 })
      else None
