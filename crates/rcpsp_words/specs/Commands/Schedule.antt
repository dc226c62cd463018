-- The command `schedule`.
use Rattle.std.specs.Prelude.{[], ◌∷◌, Option, None, Some, unwrap_or, codes, if◌then◌else◌}
use Rattle.rcpsp_words.specs.declared.commands.schedule.ScheduleCommand.{ScheduleCommand}
use Rattle.rcpsp_words.specs.declared.values.form.Form.TheVariants.{Table}
use Rattle.rcpsp_words.specs.Reading.{◌>>=◌}
use Rattle.rcpsp_words.specs.Gathered.{Given, only_word, file_format, has_flag, rule_given, name_given, form_given, workers_given, rounds_given, live_given}
use Rattle.rcpsp_words.specs.Values.Name.{are_names}
use Rattle.rcpsp_words.specs.Values.Order.{order_of}

-- one file; a rule or a list; a calendar or none; rounds of descent or none; how many workers book
-- it, and how often it is told how far they have come; improved or not; a form, or else a table
unfoldable pub schedule_of : Given → Option ScheduleCommand
schedule_of given = do
  file ← only_word given.positional
  format ← file_format given file
  rule ← rule_given given (codes "rule")
  list ← name_given given (codes "list")
  calendar ← name_given given (codes "calendar")
  descend ← rounds_given given
  workers ← workers_given given
  live ← live_given given
  improve ← has_flag given (codes "improve")
  form ← form_given given (codes "as")
  order ← order_of rule list
  if are_names (Some file ∷ list ∷ calendar ∷ [])
      then Some (record {
        file = file;
        format = format;
        order = order;
        calendar = calendar;
        descend = descend;
        workers = workers;
        live = live;
        improve = improve;
        form = unwrap_or form Table;
      })
      else None
