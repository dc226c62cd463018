-- The options: how each is written, what its value is, and which commands have it.
use Rattle.std.specs.Prelude.{ℕ, ◌&&◌, Bool, List, [], ◌∷◌, map, Option, find, codes}
use Rattle.std.specs.List.{list_any}
use Rattle.std.specs.Option.{option_map}
use Rattle.std.specs.Str.{bytes_eq}
use Rattle.rcpsp_words.specs.declared.table.Entry.{Entry as Row}
use Rattle.rcpsp_words.specs.declared.table.Kind.{Kind}
use Rattle.rcpsp_words.specs.declared.table.Kind.TheVariants as kind

-- an option: its name, its kind, and the words of the commands that have it
pub record Entry : Type 0 where
  pub name : List ℕ
  pub kind : Kind
  pub commands : List (List ℕ)

abbrev pub options : List Entry
options =
    record {
      name = codes "format";
      kind = kind.Format;
      commands = codes "schedule" ∷ codes "parallel" ∷ codes "sample" ∷ codes "check"
          ∷ codes "convert"
          ∷ codes "windows" ∷ [];
    }
    ∷ record {
      name = codes "rule";
      kind = kind.Rule;
      commands = codes "schedule" ∷ codes "parallel" ∷ codes "trial" ∷ [];
    }
    ∷ record {
      name = codes "list";
      kind = kind.Name;
      commands = codes "schedule" ∷ codes "parallel" ∷ [];
    }
    ∷ record {
      name = codes "calendar";
      kind = kind.Name;
      commands = codes "schedule" ∷ codes "parallel" ∷ [];
    }
    ∷ record {
      name = codes "improve";
      kind = kind.Flag;
      commands = codes "schedule" ∷ codes "sample" ∷ [];
    }
    ∷ record { name = codes "descend"; kind = kind.Number 1 1000; commands = codes "schedule" ∷ [] }
    ∷ record {
      name = codes "as";
      kind = kind.Form;
      commands = codes "schedule" ∷ codes "parallel" ∷ codes "sample" ∷ [];
    }
    ∷ record { name = codes "to"; kind = kind.Format; commands = codes "convert" ∷ [] }
    ∷ record {
      name = codes "workers";
      kind = kind.Number 1 64;
      commands = [] ∷ codes "schedule" ∷ codes "sample" ∷ codes "trial" ∷ [];
    }
    ∷ record {
      name = codes "live";
      kind = kind.Number 1 1000;
      commands = codes "schedule" ∷ codes "sample" ∷ [];
    }
    ∷ record {
      name = codes "seed";
      kind = kind.Number 0 18446744073709551615;
      commands = codes "sample" ∷ [];
    }
    ∷ record {
      name = codes "from";
      kind = kind.Number 0 4294967295;
      commands = codes "sample" ∷ [];
    }
    ∷ record { name = codes "count"; kind = kind.Number 1 1000000; commands = codes "sample" ∷ [] }
    ∷ record { name = codes "all"; kind = kind.Flag; commands = codes "sample" ∷ [] }
    ∷ record {
      name = codes "number";
      kind = kind.Number 0 18446744073709551615;
      commands = codes "trial" ∷ [];
    }
    ∷ record { name = codes "activities"; kind = kind.Number 2 1000; commands = codes "trial" ∷ [] }
    ∷ record { name = codes "resources"; kind = kind.Number 0 16; commands = codes "trial" ∷ [] }
    ∷ []

-- whether it is the option of this name, and the command of this word has it
abbrev pub is_option : Entry → List ℕ → List ℕ → Bool
is_option entry command name =
    bytes_eq entry.name name && list_any (λ word. bytes_eq word command) entry.commands

-- the kind of the option of this name, where the command of this word has it
unfoldable pub kind_of : List ℕ → List ℕ → Option Kind
kind_of command name =
    option_map (λ entry. entry.kind) (find (λ entry. is_option entry command name) options)

-- what contracts see of a row of the code's table: the bytes of its texts
abbrev pub entry_view : Row → Entry
entry_view row = record {
  name = row.name.now;
  kind = row.kind;
  commands = map (λ word. word.now) row.commands.now;
}
