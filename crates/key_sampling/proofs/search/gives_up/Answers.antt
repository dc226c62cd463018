use Rattle.std.proofs.Common.{◌≤◌, unwrap_or, IsSome, refl, sym, subst}
use Rattle.key_sampling.specs.Race.{value_in}
use Rattle.key_sampling.proofs.search.gives_up.Goals as goal

pub give_up-requires-clause-hand : goal.give_up-requires-clause-hand
give_up-requires-clause-hand c = subst (λ o. IsSome o) (sym c.requires.hand) refl

pub give_up-requires-clause-bound : goal.give_up-requires-clause-bound
give_up-requires-clause-bound c =
    subst (λ o. c.args.bound ≤ value_in c.args.race.now (unwrap_or o 0)) (sym c.requires.hand)
    c.requires.bound
