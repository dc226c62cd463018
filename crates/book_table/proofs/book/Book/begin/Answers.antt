use Rattle.std.proofs.Common.{◌≡◌, ◌<◌, false, sym, ap, subst, arith}
use Rattle.book_table.proofs.BookLaws.{sizes_are, seated}
use Rattle.activity_net.specs.Network.{Listing}
use Rattle.book_rule.specs.declared.view.View.{View}
use Rattle.book_table.specs.Passes.{PassToken}
use Rattle.book_rule.proofs.TurnLaws.{begins_search}
use Rattle.book_rule.specs.Listed.{count}
use Rattle.book_table.proofs.book.Book.begin.Goals as goal

pub load-turn-requires : goal.load-turn-requires
load-turn-requires g c =
    let sizes = sizes_are c.self.inside c.args.self.now c.self.view_is c.self.invariant in
    let pass =
    seated c.self.inside c.args.self.now c.pass.inside c.args.pass.now c.self.view_is
    c.pass.view_is c.self.invariant c.requires.own.own in
    let me = sym (ap (λ (p : PassToken). p.view) c.pass.view_is) in
    let key = sym sizes.key in
    let free = subst (λ (v : View). v.hand.holds ≡ false) me c.requires.own.empty in
    let there = subst (λ (l : Listing). c.args.position < count l) key c.requires.position in (
      pass.table,
      omega (arith, sizes.wide),
      begins_search _ _ _ _ pass.own free _
          (subst (λ i. i < count c.self.inside.table.shared.key) c.requires.aim there),
    )
