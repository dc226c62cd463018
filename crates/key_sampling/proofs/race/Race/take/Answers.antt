use Rattle.std.proofs.Common.{◌≡◌, ℕ, ◌+◌, ◌%◌, ◌^◌, ◌<◌, ◌≤◌, Bool, true, length, Option, Some, sym, refl, ap, ◌∙◌, subst, arith}
use Rattle.std.specs.Option.{option_map}
use mathlib.Core.Option.{none}
use Rattle.atomic_table.specs.Table.{step, Allows}
use Rattle.race_rule.specs.declared.view.SeekerView.{SeekerView}
use Rattle.race_rule.specs.Rule.{ticket_word, RaceRule}
use Rattle.race_rule.specs.Plays.{IsTaking}
use Rattle.race_rule.proofs.Steps.{takes}
use Rattle.key_sampling.proofs.WordLaws.{length-words_of}
use Rattle.key_sampling.specs.Words.{words_of}
use Rattle.key_sampling.proofs.RaceLaws.{over_table, after_take-in, after_take-out, none_in_hand}
use Rattle.key_sampling.proofs.race.Race.take.Goals as goal

pub fetch_add-ticket-requires : goal.fetch_add-ticket-requires
fetch_add-ticket-requires c =
    let race = c.args.self.now in
    let seat = c.args.seeker.now.seat in
    let slots = race.table.shared.table_id.slots in (
      c.requires.own.table,
      omega (arith, race.wide),
      over_table race (λ words from. Allows (RaceRule words from) slots seat.id seat.me ticket_word
          (λ n. (n + 1) % 2 ^ 64) (IsTaking (step slots ticket_word 1 0 none) seat.me))
          (takes (words_of race.terms) race.terms.from slots seat.id seat.me c.requires.own.alive
          (none_in_hand seat.me.0 c.requires.idle) c.requires.going),
    )

-- what a seeker shows of its view
abbrev shows : ℕ → Option ℕ → Bool → ℕ → SeekerView → Type 0
shows number hand ended best v =
    (number ≡ v.number) × (hand ≡ option_map (λ ticket. v.from + ticket) v.hand)
    × (ended ≡ v.ended) × (best ≡ v.best_seen)

pub invariant_of-seeker : goal.invariant_of-seeker
invariant_of-seeker c =
    let old = c.args.seeker.now in
    let v = old.seat.me.0 in
    let n = c.fetch_add-ticket.result in
    let count = length-words_of c.args.self.now.terms in
    let words = ap length c.requires.own.words in
    let beyond : length v.words ≤ n = omega arith in
    let is = c.fetch_add-ticket.ensures.2.view ∙ after_take-out v n beyond in
    let shown = old.shown in
    record {
      shown = subst (shows old.number old.hand true old.best_seen) (sym is)
          (shown.0, shown.1, refl, shown.3);
    }

pub invariant_of-seeker-2 : goal.invariant_of-seeker-2
invariant_of-seeker-2 c =
    let old = c.args.seeker.now in
    let v = old.seat.me.0 in
    let n = c.fetch_add-ticket.result in
    let count = length-words_of c.args.self.now.terms in
    let words = ap length c.requires.own.words in
    let within : n < length v.words = omega arith in
    let is = c.fetch_add-ticket.ensures.2.view ∙ after_take-in v n within in
    let shown = old.shown in
    record {
      shown = subst (shows old.number (Some (c.args.self.now.terms.from + n)) old.ended
          old.best_seen) (sym is)
          (shown.0, ap (λ (f : ℕ). Some (f + n)) (sym c.requires.own.from), shown.2, shown.3);
    }
