use Rattle.race_rule.proofs.Seats.{begins}
use Rattle.key_sampling.specs.Words.{words_of}
use Rattle.key_sampling.proofs.WordLaws.{are_words}
use Rattle.key_sampling.proofs.race.Race.with_first.Goals as goal

pub of_words-requires : goal.of_words-requires
of_words-requires c =
    let terms = c.args.terms in
    begins (words_of terms) terms.from
    (are_words terms c.order-order.result.now c.order-order.ensures.limits
    c.order-order.ensures.feasible c.requires.range)
