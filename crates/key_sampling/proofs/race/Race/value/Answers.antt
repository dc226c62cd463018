use Rattle.std.proofs.Common.{◌≡◌, ℕ, ◌+◌, ◌<◌, min, slice_index, unwrap_or, Some, IfSome, sym, ap, ◌∙◌, subst, arith}
use Rattle.std.specs.Option.{option_map}
use mathlib.Core.Option.{none}
use Rattle.atomic_table.specs.Table.{step, Allows}
use Rattle.race_rule.specs.Rule.{best_word, RaceRule}
use Rattle.race_rule.specs.Plays.{IsValuing}
use Rattle.race_rule.proofs.Steps.{values}
use Rattle.key_sampling.specs.Words.{word_of, words_of}
use Rattle.key_sampling.specs.Race.{value_in}
use Rattle.key_sampling.proofs.RaceLaws.{over_table, ticket_of, word_in_hand}
use Rattle.key_sampling.proofs.race.Race.value.Goals as goal

pub fetch_min-found-requires : goal.fetch_min-found-requires
fetch_min-found-requires c =
    let race = c.args.self.now in
    let old = c.args.seeker.now in
    let seat = old.seat in
    let v = seat.me.0 in
    let own = c.requires.own in
    let slots = race.table.shared.table_id.slots in
    let sample = c.in-Some.sample in
    let word = c.word_of-word.result in
    let hand : Some sample ≡ option_map (λ ticket. v.from + ticket) v.hand =
    sym c.in-Some.is ∙ old.shown.1 in
    let held = ticket_of v sample hand in
    let ticket = held.0 in
    let within : ticket < race.terms.count =
    subst (λ o. IfSome o (λ t. t < race.terms.count)) held.1 own.hand in
    let makespan : c.args.makespan ≡ value_in race sample =
    c.requires.makespan ∙ ap (λ o. value_in race (unwrap_or o 0)) (sym hand) in
    let is : word ≡ slice_index (words_of race.terms) ticket =
    c.word_of-word.ensures ∙ (ap (λ (m : ℕ). word_of m sample) makespan
    ∙ sym (word_in_hand race v ticket sample own.from within held.2)) in (
      own.table,
      omega (arith, race.wide),
      over_table race (λ words from. Allows (RaceRule words from) slots seat.id seat.me best_word
          (λ n. min n word) (IsValuing (step slots best_word word 0 none) seat.me))
          (values (words_of race.terms) race.terms.from slots seat.id word ticket seat.me own.alive
          held.1 is),
    )
