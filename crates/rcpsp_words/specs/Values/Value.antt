-- The value of an option, by its kind.
use Rattle.std.specs.Prelude.{ℕ, List, Option, None, Some}
use Rattle.std.specs.Option.{option_map}
use Rattle.priority_rules.specs.declared.rule.Rule.{Rule}
use Rattle.rcpsp_words.specs.declared.table.Kind.{Kind}
use Rattle.rcpsp_words.specs.declared.table.Kind.TheVariants as kind
use Rattle.rcpsp_words.specs.declared.values.form.Form.{Form}
use Rattle.rcpsp_words.specs.declared.values.format.Format.{Format}
use Rattle.rcpsp_words.specs.declared.values.value.Value.{Value as Found}
use Rattle.rcpsp_words.specs.declared.values.value.Value.TheVariants as found
use Rattle.rcpsp_words.specs.Values.Number.{number_in}
use Rattle.rcpsp_words.specs.Values.Rule.{rule_named}
use Rattle.rcpsp_words.specs.Values.Form.{form_named}
use Rattle.rcpsp_words.specs.Values.Format.{format_named}

-- the value of an option, of whatever kind
pub data Value : Type 0 where
  a_number : ℕ → Value
  a_rule : Rule → Value
  a_form : Form → Value
  a_format : Format → Value
  a_name : List ℕ → Value

-- the value of this kind that a text is; a flag has none
abbrev pub value_in : Kind → List ℕ → Option Value
value_in kind.Flag text = None
value_in (kind.Number least greatest) text = option_map a_number (number_in text least greatest)
value_in kind.Rule text = option_map a_rule (rule_named text)
value_in kind.Form text = option_map a_form (form_named text)
value_in kind.Format text = option_map a_format (format_named text)
value_in kind.Name text = Some (a_name text)

-- what contracts see of a value: the bytes of its name
abbrev pub value_view : Found → Value
value_view (found.Number number) = a_number number
value_view (found.Rule rule) = a_rule rule
value_view (found.Form form) = a_form form
value_view (found.Format format) = a_format format
value_view (found.Name name) = a_name name.now
