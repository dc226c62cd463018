-- The command of the words, a file for each.
pub mod Schedule
pub mod Parallel
pub mod Sample
pub mod Check
pub mod Convert
pub mod Windows
pub mod Trial
use Rattle.std.specs.Prelude.{ℕ, List, Option, None, Some, codes, if◌then◌else◌}
use Rattle.std.specs.Option.{option_map}
use Rattle.std.specs.Str.{bytes_eq}
use Rattle.rcpsp_words.specs.declared.commands.Command.{Command}
use Rattle.rcpsp_words.specs.declared.commands.Command.TheVariants as command
use Rattle.rcpsp_words.specs.Gathered.{Given}
use Rattle.rcpsp_words.specs.Commands.Schedule.{schedule_of}
use Rattle.rcpsp_words.specs.Commands.Parallel.{parallel_of}
use Rattle.rcpsp_words.specs.Commands.Sample.{sample_of}
use Rattle.rcpsp_words.specs.Commands.Check.{check_of}
use Rattle.rcpsp_words.specs.Commands.Convert.{convert_of}
use Rattle.rcpsp_words.specs.Commands.Windows.{windows_of}
use Rattle.rcpsp_words.specs.Commands.Trial.{trial_of}

-- the command of a word, by what the words after it give
abbrev pub command_of : List ℕ → Given → Option Command
command_of word given =
    if bytes_eq word (codes "schedule") then option_map command.Schedule (schedule_of given)
    else if bytes_eq word (codes "parallel") then option_map command.Parallel (parallel_of given)
    else if bytes_eq word (codes "sample") then option_map command.Sample (sample_of given)
    else if bytes_eq word (codes "check") then option_map command.Check (check_of given)
    else if bytes_eq word (codes "convert") then option_map command.Convert (convert_of given)
    else if bytes_eq word (codes "windows") then option_map command.Windows (windows_of given)
    else if bytes_eq word (codes "trial") then option_map command.Trial (trial_of given)
    else None
