use Rattle.std.proofs.Common.{false, sym, ap, subst, ◌∙◌, arith}
use Rattle.book_table.proofs.BookLaws.{sizes_are}
use Rattle.activity_net.specs.Network.{Listing}
use Rattle.book_rule.specs.declared.view.View.{View}
use Rattle.book_table.specs.Passes.{PassToken}
use Rattle.book_table.specs.Passes.{RunningBook}
use Rattle.book_rule.specs.Knowledge.{IsOwn}
use Rattle.book_rule.proofs.OpenLaws.{new_own}
use Rattle.book_rule.proofs.SeatLaws.{splits}
use Rattle.book_table.proofs.book.Book.another.Goals as goal

pub split_seat-seat-requires : goal.split_seat-seat-requires
split_seat-seat-requires c =
    let sizes = sizes_are c.self.inside c.args.self.now c.self.view_is c.self.invariant in
    let path = c.first.view_is ∙ c.requires.first in
    let me = sym (ap (λ (p : PassToken). p.view) path) in
    let own = new_own c.args.self.now.listing 0 c.args.number false sizes.bookable in
    let mine = subst (λ (v : View). IsOwn c.args.self.now.listing v) me own in
    let table = ap (λ (p : PassToken). p.table) path
    ∙ sym (ap (λ (b : RunningBook). b.table) c.self.view_is) in
    let number = ap (λ (p : PassToken). p.view.number) path in
    let gathered = ap (λ (p : PassToken). p.view.gathered) path in (
      table,
      omega (arith, sizes.wide),
      splits _ _ _
          (subst (λ (l : Listing). IsOwn l c.first.inside.seat.me.0) (sym sizes.key) mine)
          number gathered,
    )
