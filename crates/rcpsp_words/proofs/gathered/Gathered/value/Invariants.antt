use Rattle.std.proofs.Common.{◌≡◌, ◌++◌, List, ℕ, map, drop, filter}
use Rattle.std.specs.Str.{bytes_eq}
use Rattle.std.specs.Option.{option_map, option_to_list}
use Rattle.rcpsp_words.specs.Gathered.{given_value, given_by, at_most_one}
use Rattle.rcpsp_words.specs.Values.Value.{Value, value_view}
use Rattle.rcpsp_words.proofs.gathered.Gathered.value.Given as goal

abbrev pub invariant-loop-name : goal.invariant-loop-name
invariant-loop-name l =
    at_most_one (option_to_list (option_map value_view l.found)
    ++ map (λ (pair : List ℕ × Value). pair.1)
    (filter (λ pair. bytes_eq pair.0 l.option)
    (map (λ pair. (pair.0.now, value_view pair.1)) (drop l.name-index l.name-items))))
    ≡ given_value (given_by l.self) l.option
