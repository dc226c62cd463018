use Rattle.std.proofs.Common.{◌≡◌, ◌++◌, [], ◌∷◌, map, drop, filter, cond, is_some}
use Rattle.std.specs.Str.{bytes_eq}
use Rattle.std.specs.Option.{option_map}
use Rattle.rcpsp_words.specs.Gathered.{has_flag, given_by, at_most_one}
use Rattle.rcpsp_words.proofs.gathered.Gathered.flag.Given as goal

abbrev pub invariant-loop-name : goal.invariant-loop-name
invariant-loop-name l =
    option_map is_some (at_most_one (cond l.found (l.flag ∷ []) []
    ++ filter (λ flag. bytes_eq flag l.flag)
    (map (λ flag. flag.now) (drop l.name-index l.name-items))))
    ≡ has_flag (given_by l.self) l.flag
