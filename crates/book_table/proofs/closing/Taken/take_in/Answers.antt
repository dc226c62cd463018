use Rattle.std.proofs.Common.{◌≡◌, sym, ap, subst, ◌∙◌}
use Rattle.book_rule.specs.declared.view.View.{View}
use Rattle.book_rule.specs.Knowledge.{IsOwn}
use Rattle.book_rule.proofs.SeatLaws.{joins}
use Rattle.book_table.specs.Passes.{PassToken}
use Rattle.book_table.proofs.CloseLaws.{some_is}
use Rattle.book_table.proofs.closing.Taken.take_in.Goals as goal

pub join_seat-requires : goal.join_seat-requires
join_seat-requires c =
    let key = c.args.table.now.key in
    let chief = c.in-Some.chief in
    let seat = c.pass.inside.seat in
    let (table, own, number, next) = some_is _ _ chief c.in-Some.is c.requires.next in
    let view : seat.me.0 ≡ c.args.pass.view = ap (λ (p : PassToken). p.view) c.pass.view_is in
    let its = subst (λ (v : View). IsOwn key v) (sym view) c.requires.own in (
      table,
      ap (λ (p : PassToken). p.table) c.pass.view_is ∙ c.requires.table.0,
      c.pass.invariant.slots,
      c.requires.table.1,
      joins key chief.id seat.id chief.me.0 seat.me.0 own number its
          (ap (λ (v : View). v.number) view ∙ next)
          (ap (λ (v : View). v.resting) view ∙ c.requires.rests),
    )
