-- What words and files come to: the text of the output, or the first refusal.
use Rattle.std.specs.Prelude.{ℕ, List, [], ◌∷◌, length, Option, None, Some, Result, Ok, Err, if◌then◌else◌, nat_lt}
use Rattle.rc_instance.specs.declared.limits.TheConstants.{MAX_FILE_BYTES}
use Rattle.rc_edge.specs.Files.{file_of}
use Rattle.rcpsp_words.specs.declared.words.Options.{Options}
use Rattle.rcpsp_words.specs.declared.commands.Command.{Command}
use Rattle.rcpsp_words.specs.Words.{options_of}
use Rattle.rcpsp_run.specs.declared.refusal.Refusal.{Refusal}
use Rattle.rcpsp_run.specs.declared.refusal.Refusal.TheVariants.{Words, CannotRead, TooLarge}
use Rattle.rc_instance.specs.Results.{◌>>=◌}
use Rattle.rcpsp_run.specs.Answer.{Answer}
use Rattle.rcpsp_run.specs.Commands.{command_names, answer_of}

-- the names of the files that the words give, in the order in which they are fetched
abbrev pub names_of : Option Options → List (List ℕ)
names_of None = []
names_of (Some options) = command_names options.command

-- the bytes of a file, which is there and has no more than the limit
abbrev pub within_limit : List ℕ → Option (List ℕ) → Result (List ℕ) Refusal
within_limit name None = Err (CannotRead name)
within_limit name (Some bytes) =
    if nat_lt MAX_FILE_BYTES (length bytes) then Err (TooLarge name) else Ok bytes

-- the texts of the files of these names, in order
unfoldable pub contents : List (List ℕ × List ℕ) → List (List ℕ) → Result (List (List ℕ)) Refusal
contents pairs [] = Ok []
contents pairs (name ∷ names) = do
  text ← within_limit name (file_of pairs name)
  texts ← contents pairs names
  Ok (text ∷ texts)

-- what a command comes to: its files are fetched, and then their texts are read
abbrev pub command_outcome : List (List ℕ × List ℕ) → Command → Result Answer Refusal
command_outcome pairs command = contents pairs (command_names command) >>= answer_of command

-- what the options come to, where there are any
abbrev pub options_outcome : List (List ℕ × List ℕ) → Option Options → Result Answer Refusal
options_outcome pairs None = Err Words
options_outcome pairs (Some options) = command_outcome pairs options.command

-- what words and files come to
abbrev pub outcome : List (List ℕ) → List (List ℕ × List ℕ) → Result Answer Refusal
outcome words pairs = options_outcome pairs (options_of words)
