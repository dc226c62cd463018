use Rattle.std.proofs.Common.{◌≡◌, false, sym, ap, subst, arith}
use Rattle.book_table.proofs.BookLaws.{sizes_are, seated}
use Rattle.book_rule.specs.declared.view.View.{View}
use Rattle.book_table.specs.Passes.{PassToken}
use Rattle.book_rule.proofs.TurnLaws.{looks}
use Rattle.book_table.proofs.book.Book.load_turn.Goals as goal

pub load-turn-requires : goal.load-turn-requires
load-turn-requires c =
    let sizes = sizes_are c.self.inside c.args.self.now c.self.view_is c.self.invariant in
    let pass =
    seated c.self.inside c.args.self.now c.pass.inside c.args.pass.now c.self.view_is
    c.pass.view_is c.self.invariant c.requires.own in
    let me = sym (ap (λ (p : PassToken). p.view) c.pass.view_is) in
    let key = sym sizes.key in
    let free = subst (λ (v : View). v.hand.holds ≡ false) me c.requires.empty in
    (pass.table, omega (arith, sizes.wide), looks _ _ _ _ pass.own free)
