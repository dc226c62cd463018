use Rattle.std.proofs.Common.{ℕ, sym, subst, arith}
use Rattle.race_rule.specs.Rule.{RaceRule}
use Rattle.atomic_table.specs.Table.{Joins}
use Rattle.race_rule.specs.Views.{blank, with_gathered}
use Rattle.race_rule.proofs.Seats.{joins}
use Rattle.key_sampling.proofs.RaceLaws.{over_table}
use Rattle.key_sampling.specs.Words.{words_of}
use Rattle.key_sampling.proofs.race.Race.gather.Goals as goal

pub join_seat-requires : goal.join_seat-requires
join_seat-requires c =
    let race = c.args.self.now in
    let seat = c.args.first.now.seat in
    let other = c.args.other.seat in
    let v = seat.me.0 in
    let w = other.me.0 in (
      c.requires.own.table,
      c.requires.other.table,
      c.requires.other.empty,
      omega (arith, race.wide),
      over_table race (λ words from. Joins (RaceRule words from) seat.id v other.id w
          (with_gathered v w) blank)
          (subst (λ (id : ℕ). Joins (RaceRule (words_of race.terms) race.terms.from) id v other.id w
          (with_gathered v w) blank) (sym c.requires.first)
          (joins (words_of race.terms) race.terms.from other.id v w c.requires.own.alive
          c.requires.other.alive c.requires.ended c.requires.next)),
    )
