use Rattle.std.proofs.Common.{◌≡◌, sym, ap, subst, arith}
use Rattle.book_table.proofs.BookLaws.{sizes_are, seated}
use Rattle.activity_net.specs.Network.{Listing}
use Rattle.book_rule.specs.declared.view.View.{View}
use Rattle.book_table.specs.Passes.{PassToken}
use Rattle.book_rule.proofs.OfferLaws.{raises_offer}
use Rattle.book_rule.specs.Layout.{offer_word}
use Rattle.book_table.proofs.book.Book.raise.Goals as goal

pub fetch_max-requires : goal.fetch_max-requires
fetch_max-requires g c =
    let sizes = sizes_are c.self.inside c.args.self.now c.self.view_is c.self.invariant in
    let pass =
    seated c.self.inside c.args.self.now c.pass.inside c.args.pass.now c.self.view_is
    c.pass.view_is c.self.invariant c.requires.own.own in
    let me = sym (ap (λ (p : PassToken). p.view) c.pass.view_is) in
    let key = sym sizes.key in
    let found = subst (λ (v : View). c.args.position ≡ v.found.position) me c.requires.found.0 in
    let is = subst (λ (v : View). c.args.start ≡ v.found.start) me c.requires.found.1 in
    let at = subst (λ (l : Listing). c.offer_place-place.result ≡ offer_word l c.args.position)
    key c.offer_place-place.ensures.value in (
      pass.table,
      omega (arith, sizes.wide, c.offer_place-place.ensures.within),
      raises_offer _ _ _ _ pass.own c.args.position _ c.args.start _ c.requires.aim found is
          c.ranges.start.fits at,
    )
