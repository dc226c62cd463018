use Rattle.std.proofs.Common.{◌≤◌, unwrap_or, IsSome, refl, sym, subst, arith}
use Rattle.key_sampling.specs.Race.{value_in}
use Rattle.worker_tests.proofs.AloneLaws.{given_up}
use Rattle.worker_tests.proofs.race.give_up.Goals as goal

pub give_up-requires-clause-hand : goal.give_up-requires-clause-hand
give_up-requires-clause-hand c = subst (λ o. IsSome o) (sym c.requires.hand.hand) refl

pub give_up-requires-clause-bound : goal.give_up-requires-clause-bound
give_up-requires-clause-bound c =
    let low : c.args.value ≤ value_in c.args.race.now c.args.sample =
    omega (arith, c.requires.value) in
    subst (λ o. c.args.value ≤ value_in c.args.race.now (unwrap_or o 0)) (sym c.requires.hand.hand)
    low

pub returns : goal.returns
returns c =
    given_up c.args.race.now c.args.seeker.now c.give_up.new.seeker c.args.sample c.give_up.result
    c.requires.hand c.give_up.ensures.stays c.give_up.ensures.hand
