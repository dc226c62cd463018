use Rattle.std.proofs.Common.{◌≡◌, ℕ, ◌+◌, ◌<◌, ◌≤◌, slice_index, unwrap_or, Some, IfSome, sym, ◌∙◌, subst, arith}
use Rattle.std.specs.Option.{option_map}
use Rattle.key_sampling.specs.Words.{words_of}
use Rattle.key_sampling.specs.Race.{view_of, value_in, HasLookedAt, HasLooked}
use Rattle.key_sampling.proofs.RaceLaws.{ticket_of, word_in_hand}
use Rattle.key_sampling.proofs.race.Race.give_up.Goals as goal

pub look-requires-clause-low : goal.look-requires-clause-low
look-requires-clause-low c =
    let race = c.args.self.now in
    let old = c.args.seeker.now in
    let v = old.seat.me.0 in
    let own = c.requires.own in
    let sample = c.in-Some.sample in
    let limit = c.word_of.result in
    let word = c.word_of.ensures in
    let hand : Some sample ≡ option_map (λ ticket. v.from + ticket) v.hand =
    sym c.in-Some.is ∙ old.shown.1 in
    let held = ticket_of v sample hand in
    let within : held.0 < race.terms.count =
    subst (λ o. IfSome o (λ t. t < race.terms.count)) held.1 own.hand in
    let bound : c.args.bound ≤ value_in race sample =
    subst (λ o. c.args.bound ≤ value_in race (unwrap_or o 0)) (sym hand) c.requires.bound in
    let is = word_in_hand race v held.0 sample own.from within held.2 in
    subst (λ o. IfSome o (λ t. limit ≤ slice_index (words_of race.terms) t)) (sym held.1)
    (omega arith)

pub returns-clause-looked : goal.returns-clause-looked
returns-clause-looked c =
    let old = c.args.seeker.now in
    let v = old.seat.me.0 in
    let hand = sym c.in-Some.is ∙ old.shown.1 in
    subst (λ o. HasLooked c.args.bound v (view_of c.look.new.seeker) c.look.result (unwrap_or o 0))
    hand (subst (λ (limit : ℕ). HasLookedAt limit v (view_of c.look.new.seeker) c.look.result)
    c.word_of.ensures c.look.ensures.looked)
