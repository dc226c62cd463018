-- The words of the command line, and what they say.
use Rattle.std.specs.Prelude.{ℕ, List, [], ◌∷◌, Option, None, Some}
use Rattle.rcpsp_words.specs.declared.words.Options.{Options}
use Rattle.rcpsp_words.specs.Reading.{◌>>=◌}
use Rattle.rcpsp_words.specs.Part.{parts_after}
use Rattle.rcpsp_words.specs.Gathered.{given_of}
use Rattle.rcpsp_words.specs.Commands.{command_of}

-- the options of the words
unfoldable pub options_of : List (List ℕ) → Option Options
options_of [] = None
options_of (first ∷ rest) = do
  given ← given_of (parts_after first first rest)
  said ← command_of first given
  Some (record { command = said })
