use Rattle.std.proofs.Common.{◌≡◌, ◌≤◌, map, drop}
use Rattle.std.specs.Option.{option_map}
use Rattle.rcpsp_words.specs.Values.Name.{are_names}
use Rattle.rcpsp_words.proofs.NameLaws.{are_names_after}
use Rattle.rcpsp_words.proofs.values.name.are_names.Given as goal

abbrev pub invariant-loop-name : goal.invariant-loop-name
invariant-loop-name l = record {
  rest :
      are_names_after l.dashes (map (λ name. option_map (λ text. text.now) name)
      (drop l.name-index l.names))
      ≡ are_names (map (λ name. option_map (λ text. text.now) name) l.names);
  few : l.dashes ≤ l.name-index;
}
