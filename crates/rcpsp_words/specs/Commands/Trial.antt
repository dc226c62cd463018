-- The command `trial`.
use Rattle.std.specs.Prelude.{ℕ, List, [], Option, None, Some, unwrap_or, codes}
use Rattle.priority_rules.specs.declared.rule.Rule.TheVariants.{Number}
use Rattle.rcpsp_words.specs.declared.commands.trial.TrialCommand.{TrialCommand}
use Rattle.rcpsp_words.specs.Reading.{◌>>=◌}
use Rattle.rcpsp_words.specs.Gathered.{Given, number_given, rule_given, workers_given}
use Rattle.rcpsp_words.specs.Values.Size.{InstanceSize, size_of}

-- the size of `--activities` and `--resources`
unfoldable pub size_given : Given → Option InstanceSize
size_given given = do
  activities ← number_given given (codes "activities")
  resources ← number_given given (codes "resources")
  size_of activities resources

-- no positional word
abbrev pub no_word : List (List ℕ) → Option (Unit {0})
no_word [] = Some tt
no_word _ = None

-- no file; a number, or else 1; the size of the instance; a rule, or else that by number; how many
-- workers there are
unfoldable pub trial_of : Given → Option TrialCommand
trial_of given = do
  none ← no_word given.positional
  number ← number_given given (codes "number")
  size ← size_given given
  rule ← rule_given given (codes "rule")
  workers ← workers_given given
  Some (record {
    number = unwrap_or number 1;
    size = size;
    rule = unwrap_or rule Number;
    workers = workers;
  })
