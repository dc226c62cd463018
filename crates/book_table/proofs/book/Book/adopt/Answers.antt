use Rattle.std.proofs.Common.{◌≡◌, ◌<◌, sym, ap, subst, arith}
use Rattle.book_table.proofs.BookLaws.{sizes_are, seated}
use Rattle.activity_net.specs.Network.{Listing}
use Rattle.book_table.specs.Passes.{PassToken}
use Rattle.book_rule.proofs.OfferLaws.{loads_offer}
use Rattle.book_rule.specs.Listed.{count}
use Rattle.book_rule.specs.Layout.{offer_word}
use Rattle.book_table.proofs.book.Book.adopt.Goals as goal

pub load-start-requires : goal.load-start-requires
load-start-requires g c =
    let sizes = sizes_are c.self.inside c.args.self.now c.self.view_is c.self.invariant in
    let pass =
    seated c.self.inside c.args.self.now c.pass.inside c.args.pass.now c.self.view_is
    c.pass.view_is c.self.invariant c.requires.own.own in
    let me = sym (ap (λ (p : PassToken). p.view) c.pass.view_is) in
    let key = sym sizes.key in
    let there = subst (λ (l : Listing). c.args.position < count l) key c.requires.position in
    let at = subst (λ (l : Listing). c.offer_place-place.result ≡ offer_word l c.args.position)
    key c.offer_place-place.ensures.value in (
      pass.table,
      omega (arith, sizes.wide, c.offer_place-place.ensures.within),
      loads_offer _ _ _ _ pass.own c.args.position _ _ c.requires.aim there at,
    )
