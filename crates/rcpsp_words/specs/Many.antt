-- The words of the batch program, which schedules many files, each alone.
use Rattle.std.specs.Prelude.{◌≡◌, ℕ, ◌&&◌, Bool, false, List, [], ◌∷◌, length, nat_le, Option, None, Some, is_some, unwrap_or, IfSome, codes, if◌then◌else◌}
use Rattle.std.specs.List.{list_all}
use Rattle.priority_rules.specs.declared.rule.Rule.TheVariants.{Number}
use Rattle.rcpsp_words.specs.declared.many.Many.{Many as Found}
use Rattle.rcpsp_words.specs.declared.words.Options.{Options}
use Rattle.rcpsp_words.specs.declared.commands.Command.TheVariants.{Schedule}
use Rattle.rcpsp_words.specs.declared.commands.schedule.ScheduleCommand.{ScheduleCommand}
use Rattle.rcpsp_words.specs.declared.values.form.Form.TheVariants.{Table}
use Rattle.rcpsp_words.specs.declared.values.format.Format.{Format}
use Rattle.rcpsp_words.specs.declared.values.order.Order.TheVariants.{Rule}
use Rattle.rcpsp_words.specs.Reading.{◌>>=◌}
use Rattle.rcpsp_words.specs.Part.{parts_after}
use Rattle.rcpsp_words.specs.Gathered.{Given, given_of, number_given}
use Rattle.rcpsp_words.specs.Words.{options_of}

-- the words by which a file is scheduled alone, by one worker
abbrev pub plain_words : List ℕ → List (List ℕ)
plain_words name = codes "schedule" ∷ codes "--workers" ∷ codes "1" ∷ name ∷ []

-- whether a name can be one of many: it is a file's, with an ending that says its format
abbrev pub is_plain_name : List ℕ → Bool
is_plain_name name = is_some (options_of (plain_words name))

-- many files, and how many workers schedule them
pub record Many : Type 0 where
  pub names : List (List ℕ)
  pub workers : ℕ

-- from 1 to 100 files, each of which can be scheduled alone, by 1 to 64 workers, or else by 4
unfoldable pub many_given : Given → Option Many
many_given given = do
  said ← number_given given (codes "workers")
  if (nat_le 1 (unwrap_or said 4) && nat_le (unwrap_or said 4) 64)
      && (nat_le 1 (length given.positional) && nat_le (length given.positional) 100)
      && list_all is_plain_name given.positional
      then Some (record { names = given.positional; workers = unwrap_or said 4 })
      else None

-- what the words say, none of which is a command: they are names, and the options of the empty word
unfoldable pub many_of : List (List ℕ) → Option Many
many_of words = given_of (parts_after [] [] words) >>= many_given

-- what contracts see of many files
abbrev pub many_view : Found → Many
many_view many = record { names = many.names.items; workers = many.workers }

-- what is done with a file that is scheduled alone: by number and one worker, as a table, and nothing
-- else
abbrev pub plain_command : List ℕ → Format → ScheduleCommand
plain_command name format = record {
  file = name;
  format = format;
  order = Rule Number;
  calendar = None;
  descend = None;
  workers = 1;
  live = None;
  improve = false;
  form = Table;
}

-- the options say that a file is scheduled alone
abbrev pub IsPlain : List ℕ → Options → Type 0
IsPlain name options =
    (format : Format) × (options ≡ record { command = Schedule (plain_command name format) })

-- the plain words of a name say this, or nothing
abbrev pub PlainWordsSayOneFile : Type 0
PlainWordsSayOneFile =
    (name : List ℕ) → IfSome (options_of (plain_words name)) (IsPlain name)
