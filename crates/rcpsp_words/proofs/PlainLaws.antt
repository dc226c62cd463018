-- What the plain words of a name say.
use Rattle.std.proofs.Common.{◌≡◌, ℕ, Bool, true, false, List, [], ◌∷◌, Option, None, Some, IfSome, refl, sym, subst}
use Rattle.std.specs.Prelude.{codes, if◌then◌else◌}
use Rattle.std.specs.Option.{option_map}
use Rattle.rcpsp_words.specs.declared.table.Kind.{Kind}
use Rattle.rcpsp_words.specs.declared.table.Kind.TheVariants as kind
use Rattle.rcpsp_words.specs.declared.commands.Command.TheVariants.{Schedule}
use Rattle.rcpsp_words.specs.declared.values.format.Format.{Format}
use Rattle.rcpsp_words.specs.declared.words.Options.{Options}
use Rattle.rcpsp_words.specs.Reading.{◌>>=◌}
use Rattle.rcpsp_words.specs.Table.{kind_of}
use Rattle.rcpsp_words.specs.Values.Value.{Value, a_number, value_in}
use Rattle.rcpsp_words.specs.Values.Name.{are_names}
use Rattle.rcpsp_words.specs.Values.Format.{format_ending}
use Rattle.rcpsp_words.specs.Part.{Part, value, awaiting, flag, positional, wrong, is_plain, after_dashes, at_equals, awaited, said_part, named_part, equals_part, dashed_part, free_part, part_of, parts_after, end_part}
use Rattle.rcpsp_words.specs.Gathered.{given_of, given_value, has_flag, number_given, rule_given, form_given, format_given, name_given, file_format, workers_given, rounds_given, live_given}
use Rattle.rcpsp_words.specs.Commands.{command_of}
use Rattle.rcpsp_words.specs.Commands.Schedule.{schedule_of}
use Rattle.rcpsp_words.specs.Words.{options_of}
use Rattle.rcpsp_words.specs.Many.{plain_command, IsPlain, PlainWordsSayOneFile}

-- what holds of each kind of part holds of a word that is not the value of an option; where it is
-- positional, it is the word itself
module _ (P : Part → Type 0) (command word : List ℕ)
    (a_value : (name : List ℕ) (said : Value) → P (value name said)) (an_option : P awaiting)
    (a_flag : (name : List ℕ) → P (flag name)) (itself : P (positional word)) (none : P wrong) where
  plain_kinds : (plain : Bool) → P (if plain then positional word else wrong)
  plain_kinds true = itself
  plain_kinds false = none

  said_kinds : (name : List ℕ) (said : Option Value) → P (said_part name said)
  said_kinds name (Some said) = a_value name said
  said_kinds name None = none

  named_kinds : (name : List ℕ) (found : Option Kind) → P (named_part name found)
  named_kinds name None = none
  named_kinds name (Some kind.Flag) = a_flag name
  named_kinds name (Some (kind.Number least greatest)) = an_option
  named_kinds name (Some kind.Rule) = an_option
  named_kinds name (Some kind.Form) = an_option
  named_kinds name (Some kind.Format) = an_option
  named_kinds name (Some kind.Name) = an_option

  equals_kinds : (name text : List ℕ) (found : Option Kind) → P (equals_part name text found)
  equals_kinds name text None = none
  equals_kinds name text (Some kind) = said_kinds name (value_in kind text)

  dashed_kinds : (text : List ℕ) (cut : Option (List ℕ × List ℕ)) → P (dashed_part command text cut)
  dashed_kinds text (Some cut) = equals_kinds cut.0 cut.1 (kind_of command cut.0)
  dashed_kinds text None = named_kinds text (kind_of command text)

  free_kinds : (text : Option (List ℕ)) → P (free_part command word text)
  free_kinds (Some text) = dashed_kinds text (at_equals text)
  free_kinds None = plain_kinds (is_plain word)

-- the options of `schedule`, by what its words are
abbrev said_by : List Part → Option Options
said_by parts =
    given_of parts >>= (λ given. command_of (codes "schedule") given
    >>= (λ said. Some (record { command = said })))

-- a name that may be given or not
named : (name : List ℕ) (format : Format) (fits : Bool)
    → IfSome (option_map Schedule (if fits then Some (plain_command name format) else None)
    >>= (λ said. Some (record { command = said }))) (IsPlain name)
named name format true = (format, refl)
named name format false = tt

-- a name whose format may be known or not
formatted : (name : List ℕ) (format : Option Format)
    → IfSome (option_map Schedule (format >>= (λ known.
    if are_names (Some name ∷ None ∷ None ∷ []) then Some (plain_command name known) else None))
    >>= (λ said. Some (record { command = said }))) (IsPlain name)
formatted name (Some format) = named name format (are_names (Some name ∷ None ∷ None ∷ []))
formatted name None = tt

-- the words before the name ask for one worker
one_worker : (rest : List (List ℕ))
    → parts_after (codes "schedule") (codes "schedule") (codes "--workers" ∷ codes "1" ∷ rest)
    ≡ awaiting ∷ value (codes "workers") (a_number 1)
    ∷ parts_after (codes "schedule") (codes "1") rest
unfolding parts_after part_of awaited kind_of
one_worker rest = refl

-- the words before the name, the name's part, and the end of the words
abbrev SaysOneFile : List ℕ → Part → Type 0
SaysOneFile name part = (end : Option (List ℕ × Kind))
    → IfSome (said_by (awaiting ∷ value (codes "workers") (a_number 1) ∷ part ∷ end_part end))
    (IsPlain name)

by_value : (name option : List ℕ) (said : Value) → SaysOneFile name (value option said)
unfolding given_of schedule_of
by_value name option said None = tt
by_value name option said (Some end) = tt

by_option : (name : List ℕ) → SaysOneFile name awaiting
unfolding given_of schedule_of
by_option name None = tt
by_option name (Some end) = tt

by_flag : (name option : List ℕ) → SaysOneFile name (flag option)
unfolding given_of schedule_of
by_flag name option None = tt
by_flag name option (Some end) = tt

by_nothing : (name : List ℕ) → SaysOneFile name wrong
unfolding given_of schedule_of
by_nothing name None = tt
by_nothing name (Some end) = tt

by_name : (name : List ℕ) → SaysOneFile name (positional name)
unfolding given_of schedule_of file_format format_given given_value rule_given name_given has_flag form_given number_given workers_given rounds_given live_given
by_name name None = formatted name (format_ending name)
by_name name (Some end) = tt

-- the name is the last of the words
by_last : (name : List ℕ)
    → IfSome (said_by (awaiting ∷ value (codes "workers") (a_number 1)
    ∷ parts_after (codes "schedule") (codes "1") (name ∷ []))) (IsPlain name)
unfolding parts_after part_of awaited
by_last name =
    free_kinds (SaysOneFile name) (codes "schedule") name (by_value name) (by_option name)
    (by_flag name) (by_name name) (by_nothing name) (after_dashes name)
    (awaited (codes "schedule") name)

pub plain_words_say : PlainWordsSayOneFile
unfolding options_of
plain_words_say name =
    subst (λ (parts : List Part). IfSome (said_by parts) (IsPlain name))
    (sym (one_worker (name ∷ []))) (by_last name)
