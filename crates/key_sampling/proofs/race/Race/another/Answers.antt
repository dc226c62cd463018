use Rattle.std.proofs.Common.{ℕ, sym, subst, arith}
use Rattle.race_rule.specs.Rule.{RaceRule}
use Rattle.atomic_table.specs.Table.{Splits}
use Rattle.race_rule.specs.Views.{with_another, another}
use Rattle.race_rule.proofs.Seats.{splits}
use Rattle.key_sampling.specs.Words.{words_of}
use Rattle.key_sampling.proofs.RaceLaws.{over_table}
use Rattle.key_sampling.proofs.race.Race.another.Goals as goal

pub split_seat-seat-requires : goal.split_seat-seat-requires
split_seat-seat-requires c =
    let race = c.args.self.now in
    let seat = c.args.first.now.seat in
    let v = seat.me.0 in
    let few = c.requires.few in
    let made = c.requires.first.made_is in (
      c.requires.own.own.table,
      omega (arith, race.wide),
      over_table race (λ words from. Splits (RaceRule words from) seat.id v (with_another v)
          (another v))
          (subst (λ (id : ℕ). Splits (RaceRule (words_of race.terms) race.terms.from) id v (with_another v) (another v))
          (sym c.requires.first.seat) (splits (words_of race.terms) race.terms.from v c.requires.own.own.alive (omega arith))),
    )
