use Rattle.std.proofs.Common.{◌≡◌, ◌<◌, sym, ap, subst, arith}
use Rattle.book_table.proofs.BookLaws.{sizes_are, seated}
use Rattle.activity_net.specs.Network.{Listing}
use Rattle.book_table.specs.Passes.{PassToken}
use Rattle.book_rule.proofs.LoadLaws.{loads_profile}
use Rattle.book_rule.specs.Listed.{width, horizon_of}
use Rattle.book_rule.specs.Layout.{profile_word}
use Rattle.book_table.proofs.book.Book.profile.Goals as goal

pub load-word-requires : goal.load-word-requires
load-word-requires g c =
    let sizes = sizes_are c.self.inside c.args.self.now c.self.view_is c.self.invariant in
    let pass =
    seated c.self.inside c.args.self.now c.pass.inside c.args.pass.now c.self.view_is
    c.pass.view_is c.self.invariant c.requires.own in
    let me = sym (ap (λ (p : PassToken). p.view) c.pass.view_is) in
    let key = sym sizes.key in
    let period = subst (λ (l : Listing). c.args.period < horizon_of l) key c.requires.period in
    let index = subst (λ (l : Listing). c.args.index < width l) key c.requires.index in
    let at = subst (λ (l : Listing). c.profile_place-place.result
    ≡ profile_word l c.args.period c.args.index) key c.profile_place-place.ensures.value in (
      pass.table,
      omega (arith, sizes.wide, c.profile_place-place.ensures.within),
      loads_profile _ _ _ _ pass.own c.args.period c.args.index _ _ _ c.requires.aim.0
          c.requires.aim.1 period index at,
    )
