use Rattle.std.proofs.Common.{◌≡◌, ◌<◌, sym, ap, subst, arith}
use Rattle.book_table.proofs.BookLaws.{sizes_are, seated}
use Rattle.activity_net.specs.Network.{Listing}
use Rattle.book_table.specs.Passes.{PassToken}
use Rattle.book_rule.proofs.LoadLaws.{loads_floor}
use Rattle.book_rule.specs.Listed.{width}
use Rattle.book_rule.specs.Layout.{floor_word, blocks}
use Rattle.book_table.proofs.book.Book.floor.Goals as goal

pub load-word-requires : goal.load-word-requires
load-word-requires g c =
    let sizes = sizes_are c.self.inside c.args.self.now c.self.view_is c.self.invariant in
    let pass =
    seated c.self.inside c.args.self.now c.pass.inside c.args.pass.now c.self.view_is
    c.pass.view_is c.self.invariant c.requires.own in
    let me = sym (ap (λ (p : PassToken). p.view) c.pass.view_is) in
    let key = sym sizes.key in
    let block = subst (λ (l : Listing). c.args.block < blocks l) key c.requires.block in
    let index = subst (λ (l : Listing). c.args.index < width l) key c.requires.index in
    let at = subst (λ (l : Listing). c.floor_place-place.result
    ≡ floor_word l c.args.block c.args.index) key c.floor_place-place.ensures.value in (
      pass.table,
      omega (arith, sizes.wide, c.floor_place-place.ensures.within),
      loads_floor _ _ _ _ pass.own c.args.block c.args.index _ _ _ c.requires.aim.0
          c.requires.aim.1 block index at,
    )
