-- What the words after a command give: values, flags and positional words.
use Rattle.std.specs.Prelude.{◌≡◌, ℕ, Bool, false, List, [], ◌∷◌, ◌++◌, map, filter, Option, None, Some, is_some, if◌then◌else◌, codes}
use Rattle.std.specs.List.{flat_map, list_any}
use Rattle.std.specs.Option.{option_map}
use Rattle.std.specs.Str.{bytes_eq}
use Rattle.priority_rules.specs.declared.rule.Rule.{Rule}
use Rattle.rcpsp_words.specs.declared.gathered.Gathered.{Gathered}
use Rattle.rcpsp_words.specs.declared.values.form.Form.{Form}
use Rattle.rcpsp_words.specs.declared.values.format.Format.{Format}
use Rattle.rcpsp_words.specs.Reading.{◌>>=◌}
use Rattle.rcpsp_words.specs.Part.{Part, value, flag, positional, is_wrong}
use Rattle.rcpsp_words.specs.Values.Format.{format_ending}
use Rattle.rcpsp_words.specs.Values.Workers.{workers_of}
use Rattle.rcpsp_words.specs.Values.Rounds.{rounds_of}
use Rattle.rcpsp_words.specs.Values.Live.{live_of}
use Rattle.rcpsp_words.specs.Values.Value.{Value, a_number, a_rule, a_form, a_format, a_name, value_view}

-- the values by their options, the flags by name, and the positional words, each in the order
-- of the words
pub record Given : Type 0 where
  pub values : List (List ℕ × Value)
  pub flags : List (List ℕ)
  pub positional : List (List ℕ)

-- the value that a part gives, with the name of its option
abbrev pub values_in : Part → List (List ℕ × Value)
values_in (value name said) = (name, said) ∷ []
values_in _ = []

-- the flag that a part is
abbrev pub flags_in : Part → List (List ℕ)
flags_in (flag name) = name ∷ []
flags_in _ = []

-- the positional word that a part is
abbrev pub positional_in : Part → List (List ℕ)
positional_in (positional word) = word ∷ []
positional_in _ = []

-- what words give, of which none is wrong
unfoldable pub given_of : List Part → Option Given
given_of parts =
    if list_any is_wrong parts then None
    else Some (record {
      values = flat_map values_in parts;
      flags = flat_map flags_in parts;
      positional = flat_map positional_in parts;
    })

-- the element of a list, where there is one; undefined where there are more
abbrev pub at_most_one : {X : Type 0} → List X → Option (Option X)
at_most_one [] = Some None
at_most_one (x ∷ []) = Some (Some x)
at_most_one (x ∷ (y ∷ rest)) = None

-- the value of an option, which is given at most once
unfoldable pub given_value : Given → List ℕ → Option (Option Value)
given_value given option =
    at_most_one (map (λ pair. pair.1) (filter (λ pair. bytes_eq pair.0 option) given.values))

-- whether a flag is given, at most once
unfoldable pub has_flag : Given → List ℕ → Option Bool
has_flag given name =
    option_map is_some (at_most_one (filter (λ flag. bytes_eq flag name) given.flags))

-- a number, where a value is given; a value of another kind is none
abbrev pub as_number : Option Value → Option (Option ℕ)
as_number None = Some None
as_number (Some (a_number number)) = Some (Some number)
as_number (Some _) = None

-- the number that an option gives, where it is given
unfoldable pub number_given : Given → List ℕ → Option (Option ℕ)
number_given given option = given_value given option >>= as_number

-- a priority rule, where a value is given
abbrev pub as_rule : Option Value → Option (Option Rule)
as_rule None = Some None
as_rule (Some (a_rule rule)) = Some (Some rule)
as_rule (Some _) = None

-- the priority rule that an option gives, where it is given
unfoldable pub rule_given : Given → List ℕ → Option (Option Rule)
rule_given given option = given_value given option >>= as_rule

-- a form, where a value is given
abbrev pub as_form : Option Value → Option (Option Form)
as_form None = Some None
as_form (Some (a_form form)) = Some (Some form)
as_form (Some _) = None

-- the form that an option gives, where it is given
unfoldable pub form_given : Given → List ℕ → Option (Option Form)
form_given given option = given_value given option >>= as_form

-- a format, where a value is given
abbrev pub as_format : Option Value → Option (Option Format)
as_format None = Some None
as_format (Some (a_format format)) = Some (Some format)
as_format (Some _) = None

-- the format that an option gives, where it is given
unfoldable pub format_given : Given → List ℕ → Option (Option Format)
format_given given option = given_value given option >>= as_format

-- a name, where a value is given
abbrev pub as_name : Option Value → Option (Option (List ℕ))
as_name None = Some None
as_name (Some (a_name name)) = Some (Some name)
as_name (Some _) = None

-- the name that an option gives, where it is given
unfoldable pub name_given : Given → List ℕ → Option (Option (List ℕ))
name_given given option = given_value given option >>= as_name

-- a format that is given, or else that of the ending of a name
abbrev pub format_or_ending : List ℕ → Option Format → Option Format
format_or_ending file (Some format) = Some format
format_or_ending file None = format_ending file

-- the format of an instance's file: that of `--format`, or else by the ending of its name
unfoldable pub file_format : Given → List ℕ → Option Format
file_format given file = format_given given (codes "format") >>= format_or_ending file

-- how many workers share the work: the number of `--workers`, or else 4
unfoldable pub workers_given : Given → Option ℕ
workers_given given = number_given given (codes "workers") >>= workers_of

-- how many rounds the list descends through: the number of `--descend`, where it is given
unfoldable pub rounds_given : Given → Option (Option ℕ)
rounds_given given = number_given given (codes "descend") >>= rounds_of

-- how often the run tells how far it has come: the number of `--live`, where it is given
unfoldable pub live_given : Given → Option (Option ℕ)
live_given given = number_given given (codes "live") >>= live_of

-- the only positional word
abbrev pub only_word : List (List ℕ) → Option (List ℕ)
only_word (word ∷ []) = Some word
only_word _ = None

-- the only two positional words
abbrev pub two_words : List (List ℕ) → Option (List ℕ × List ℕ)
two_words (first ∷ (second ∷ [])) = Some (first, second)
two_words _ = None

-- one part more, which is not wrong
pub record Adds (old new : Given) (part : Part) : Type 0 where
  pub values : new.values ≡ old.values ++ values_in part
  pub flags : new.flags ≡ old.flags ++ flags_in part
  pub positional : new.positional ≡ old.positional ++ positional_in part
  pub fits : is_wrong part ≡ false

-- what contracts see of what was gathered
abbrev pub given_by : Gathered → Given
given_by gathered = record {
  values = map (λ pair. (pair.0.now, value_view pair.1)) gathered.values.items;
  flags = map (λ flag. flag.now) gathered.flags.items;
  positional = map (λ word. word.now) gathered.positional.items;
}
