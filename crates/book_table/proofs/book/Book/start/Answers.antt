use Rattle.std.proofs.Common.{◌<◌, refl, sym, ap, subst, ◌∙◌, arith}
use Rattle.book_table.proofs.BookLaws.{sizes_are, seated}
use Rattle.activity_net.specs.Network.{Listing}
use Rattle.book_table.specs.Passes.{PassToken}
use Rattle.book_rule.proofs.LoadLaws.{loads_start}
use Rattle.book_rule.specs.Listed.{count, IsBookable}
use Rattle.book_rule.proofs.ListedLaws.{begins-ends, horizon-small}
use Rattle.std.proofs.Common.{inl, inr}
use Rattle.book_table.proofs.book.Book.start.Goals as goal

pub load-word-requires : goal.load-word-requires
load-word-requires g c =
    let sizes = sizes_are c.self.inside c.args.self.now c.self.view_is c.self.invariant in
    let pass =
    seated c.self.inside c.args.self.now c.pass.inside c.args.pass.now c.self.view_is
    c.pass.view_is c.self.invariant c.requires.own in
    let me = sym (ap (λ (p : PassToken). p.view) c.pass.view_is) in
    let key = sym sizes.key in
    let there = subst (λ (l : Listing). c.args.position < count l) key c.requires.position in (
      pass.table,
      omega (arith, sizes.wide, c.requires.position),
      loads_start _ _ _ _ pass.own c.args.position _ _ c.requires.aim there refl,
    )

pub after_start-pass-inside-requires-clause-word : goal.after_start-pass-inside-requires-clause-word
after_start-pass-inside-requires-clause-word g c =
    let sizes = sizes_are c.self.inside c.args.self.now c.self.view_is c.self.invariant in
    let pass =
    seated c.self.inside c.args.self.now c.pass.inside c.args.pass.now c.self.view_is
    c.pass.view_is c.self.invariant c.requires.own in
    let same = sym sizes.key ∙ sym pass.own.same in
    let list = c.pass.inside.seat.me.0.list in
    let bookable = subst (λ (l : Listing). IsBookable l) same sizes.bookable in
    let position = subst (λ (l : Listing). c.args.position < count l) same c.requires.position in
    let there = subst (λ i. i < count list) c.requires.aim position in
    let ends = begins-ends list bookable _ there in
    let short = horizon-small list bookable in
    elim c.load-word.ensures.2.step.start.value [
      | inl e ↦ omega (arith, e)
      | inr e ↦
          omega (arith, e, ends, short)
    ]
