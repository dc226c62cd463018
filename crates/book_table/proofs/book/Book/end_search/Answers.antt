use Rattle.std.proofs.Common.{◌≡◌, true, false, sym, ap, subst, arith}
use Rattle.book_table.proofs.BookLaws.{sizes_are, seated}
use Rattle.activity_net.specs.Network.{Listing}
use Rattle.book_rule.specs.declared.view.View.{View}
use Rattle.book_table.specs.Passes.{PassToken}
use Rattle.book_rule.proofs.TurnLaws.{ends_search}
use Rattle.book_rule.specs.Searches.{is_chosen}
use Rattle.book_table.proofs.book.Book.end_search.Goals as goal

pub load-turn-requires : goal.load-turn-requires
load-turn-requires c =
    let sizes = sizes_are c.self.inside c.args.self.now c.self.view_is c.self.invariant in
    let pass =
    seated c.self.inside c.args.self.now c.pass.inside c.args.pass.now c.self.view_is
    c.pass.view_is c.self.invariant c.requires.own.own in
    let me = sym (ap (λ (p : PassToken). p.view) c.pass.view_is) in
    let key = sym sizes.key in
    let free = subst (λ (v : View). v.hand.holds ≡ false) me c.requires.own.empty in
    let ahead = subst (λ (v : View). v.search.ahead ≡ true) me c.requires.ahead in
    let chosen = subst (λ (v : View). is_chosen c.self.inside.table.shared.key v.search ≡ true) me
    (subst (λ (l : Listing). is_chosen l c.args.pass.now.view.search ≡ true)
    key c.requires.chosen) in
    (pass.table, omega (arith, sizes.wide), ends_search _ _ _ _ pass.own free ahead chosen)
