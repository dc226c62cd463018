use Rattle.std.proofs.Common.{ℕ, ◌≤◌, slice_index, IfSome, subst, arith}
use mathlib.Core.Option.{none}
use Rattle.atomic_table.specs.Table.{step, Allows}
use Rattle.race_rule.specs.Rule.{best_word, RaceRule}
use Rattle.race_rule.specs.Plays.{IsLooking}
use Rattle.race_rule.proofs.Steps.{looks}
use Rattle.key_sampling.specs.Words.{words_of}
use Rattle.key_sampling.proofs.RaceLaws.{over_table}
use Rattle.key_sampling.proofs.race.Race.look.Goals as goal

pub load-best-requires : goal.load-best-requires
load-best-requires g c =
    let race = c.args.self.now in
    let seat = c.args.seeker.now.seat in
    let slots = race.table.shared.table_id.slots in
    let limit = g.L.Limit.limit in (
      c.requires.own.table,
      omega (arith, race.wide),
      over_table race (λ words from. Allows (RaceRule words from) slots seat.id seat.me best_word
          (λ n. n) (IsLooking limit (step slots best_word 0 0 none) seat.me))
          (looks (words_of race.terms) race.terms.from slots seat.id limit seat.me c.requires.own.alive
          (subst (λ (l : ℕ). IfSome seat.me.0.hand (λ t. l ≤ slice_index (words_of race.terms) t))
          c.requires.limit c.requires.low)),
    )
