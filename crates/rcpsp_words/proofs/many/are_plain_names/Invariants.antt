use Rattle.std.proofs.Common.{◌≡◌, map, drop}
use Rattle.std.specs.List.{list_all}
use Rattle.rcpsp_words.specs.Many.{is_plain_name}
use Rattle.rcpsp_words.proofs.many.are_plain_names.Given as goal

abbrev pub invariant-loop-name : goal.invariant-loop-name
invariant-loop-name l =
    list_all is_plain_name (map (λ name. name.now) (drop l.name-index l.names))
    ≡ list_all is_plain_name (map (λ name. name.now) l.names)
