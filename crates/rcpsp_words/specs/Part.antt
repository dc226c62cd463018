-- What each word is, by itself and by the word before it.
use Rattle.std.specs.Prelude.{ℕ, ◌||◌, ◌==◌, not, Bool, true, false, List, [], ◌∷◌, drop, position, Option, None, Some, nat_eq, codes, if◌then◌else◌}
use Rattle.std.specs.Option.{option_map, option_and_then}
use Rattle.std.specs.List.{starts_with, before_first, after_first}
use Rattle.std.specs.Str.{bytes_eq}
use Rattle.rcpsp_words.specs.declared.table.Kind.{Kind}
use Rattle.rcpsp_words.specs.declared.table.Kind.TheVariants.{Flag}
use Rattle.rcpsp_words.specs.declared.part.Part.{Part as Found}
use Rattle.rcpsp_words.specs.declared.part.Part.TheVariants as found
use Rattle.rcpsp_words.specs.Table.{kind_of}
use Rattle.rcpsp_words.specs.Values.Value.{Value, value_in, value_view}

-- what a word is: the value of an option, an option whose value is the next word, a flag,
-- a positional word, or none of these
pub data Part : Type 0 where
  value : List ℕ → Value → Part
  awaiting : Part
  flag : List ℕ → Part
  positional : List ℕ → Part
  wrong : Part

-- whether a word is none of these
abbrev pub is_wrong : Part → Bool
is_wrong wrong = true
is_wrong _ = false

-- whether a word can be a value or a positional word: it does not begin with `-`, or is `-` alone
abbrev pub is_plain : List ℕ → Bool
is_plain [] = true
is_plain (byte ∷ rest) = not (byte == 45) || bytes_eq rest []

-- the text of a word after `--`
abbrev pub after_dashes : List ℕ → Option (List ℕ)
after_dashes word = if starts_with nat_eq word (codes "--") then Some (drop 2 word) else None

-- whether a byte is `=`
abbrev pub is_equals : ℕ → Bool
is_equals byte = byte == 61

-- the name and the value of `name=value`, which is all that follows the first `=`
abbrev pub at_equals : List ℕ → Option (List ℕ × List ℕ)
at_equals text =
    option_map (λ _. (before_first is_equals text, after_first is_equals text))
    (position is_equals text)

-- an option's name and kind, where it takes a value
abbrev pub valued : List ℕ → Option Kind → Option (List ℕ × Kind)
valued name None = None
valued name (Some Flag) = None
valued name (Some kind) = Some (name, kind)

-- the option, and its kind, whose value is the word after this one
unfoldable pub awaited : List ℕ → List ℕ → Option (List ℕ × Kind)
awaited command word =
    option_and_then (λ name. valued name (kind_of command name)) (after_dashes word)

-- the value of an option, where it is one of its kind
abbrev pub said_part : List ℕ → Option Value → Part
said_part name (Some said) = value name said
said_part name None = wrong

-- a text as the value of an option of a kind
abbrev pub value_part : List ℕ → Kind → List ℕ → Part
value_part name kind text = said_part name (value_in kind text)

-- the word `--name`
abbrev pub named_part : List ℕ → Option Kind → Part
named_part name None = wrong
named_part name (Some Flag) = flag name
named_part name (Some kind) = awaiting

-- the word `--name=value`
abbrev pub equals_part : List ℕ → List ℕ → Option Kind → Part
equals_part name text None = wrong
equals_part name text (Some kind) = value_part name kind text

-- what follows `--` in a word, cut at its first `=`
abbrev pub dashed_part : List ℕ → List ℕ → Option (List ℕ × List ℕ) → Part
dashed_part command text (Some cut) = equals_part cut.0 cut.1 (kind_of command cut.0)
dashed_part command text None = named_part text (kind_of command text)

-- a word that is not the value of the option before it
abbrev pub free_part : List ℕ → List ℕ → Option (List ℕ) → Part
free_part command word (Some text) = dashed_part command text (at_equals text)
free_part command word None = if is_plain word then positional word else wrong

-- a word after an option that awaits its value, or after any other
abbrev pub part_after : List ℕ → Option (List ℕ × Kind) → List ℕ → Part
part_after command (Some option) word =
    if is_plain word then value_part option.0 option.1 word else wrong
part_after command None word = free_part command word (after_dashes word)

-- what a word of a command is, after the word before it
unfoldable pub part_of : List ℕ → List ℕ → List ℕ → Part
part_of command before word = part_after command (awaited command before) word

-- at the end of the words an option lacks its value
abbrev pub end_part : Option (List ℕ × Kind) → List Part
end_part (Some option) = wrong ∷ []
end_part None = []

-- what each of the words is that follow a word
unfoldable pub parts_after : List ℕ → List ℕ → List (List ℕ) → List Part
parts_after command before [] = end_part (awaited command before)
parts_after command before (word ∷ rest) =
    part_of command before word ∷ parts_after command word rest

-- what contracts see of a part: the bytes of its texts
abbrev pub part_view : Found → Part
part_view (found.Value name said) = value name.now (value_view said)
part_view found.Awaiting = awaiting
part_view (found.Flag name) = flag name.now
part_view (found.Positional word) = positional word.now
part_view found.Wrong = wrong
