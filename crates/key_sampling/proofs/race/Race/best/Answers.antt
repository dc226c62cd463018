use Rattle.std.proofs.Common.{◌≡◌, ℕ, List, slice_index, refl, ap, ◌∙◌, subst, arith}
use lib.ListN.{get_elem?}
use Rattle.atomic_table.specs.Table.{Seen}
use Rattle.race_rule.specs.Rule.{best_word, RaceRule, IsLeastWord}
use Rattle.race_rule.proofs.Ends.{finishes}
use Rattle.key_sampling.specs.Words.{words_of}
use Rattle.key_sampling.proofs.WordLaws.{best-of-words}
use Rattle.key_sampling.proofs.RaceLaws.{from_table, read_at}
use Rattle.key_sampling.proofs.race.Race.best.Goals as goal

pub free-requires : goal.free-requires
free-requires c =
    let none = c.args.self.none in
    λ k within. absurd (omega (arith, c.close_with-closed.ensures.counts))

pub returns : goal.returns
returns c =
    let race = c.args.self in
    let v = c.args.first.seat.me.0 in
    let last = c.close_with-closed.ensures.values.2 in
    let state = last.0 in
    let held = from_table race (λ words from. Seen (RaceRule words from) 0 v state)
    (subst (λ (id : ℕ). Seen (RaceRule (words_of race.table.shared.key) race.table.shared.key.from)
    id v state) c.requires.first last.1) in
    let least = finishes (words_of race.terms) race.terms.from state v held c.requires.own.alive
    c.requires.ended c.requires.all in
    let word : slice_index state.words best_word ≡ c.word-best.result =
    read_at state.words best_word c.word-best.result
    (ap (λ (ws : List ℕ). get_elem? ws best_word) last.2 ∙ c.word-best.ensures) in
    best-of-words race.terms c.word-best.result _ race.within
    (subst (IsLeastWord (words_of race.terms)) word least) refl refl
