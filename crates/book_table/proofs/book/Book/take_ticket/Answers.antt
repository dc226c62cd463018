use Rattle.std.proofs.Common.{sym, ap, arith}
use Rattle.book_table.proofs.BookLaws.{sizes_are, seated}
use Rattle.book_table.specs.Passes.{PassToken}
use Rattle.book_rule.proofs.OfferLaws.{draws}
use Rattle.book_table.proofs.book.Book.take_ticket.Goals as goal

pub fetch_add-requires : goal.fetch_add-requires
fetch_add-requires c =
    let sizes = sizes_are c.self.inside c.args.self.now c.self.view_is c.self.invariant in
    let pass =
    seated c.self.inside c.args.self.now c.pass.inside c.args.pass.now c.self.view_is
    c.pass.view_is c.self.invariant c.requires.own in
    let me = sym (ap (λ (p : PassToken). p.view) c.pass.view_is) in
    let key = sym sizes.key in
    (pass.table, omega (arith, sizes.wide), draws _ _ _ _ pass.own)
