use Rattle.std.proofs.Common.{◌≡◌, ◌*◌, ◌/◌, ◌<◌, false, sym, ap, subst, ◌∙◌, arith}
use Rattle.book_table.proofs.BookLaws.{sizes_are, seated}
use Rattle.activity_net.specs.Network.{Listing}
use Rattle.book_rule.specs.declared.view.View.{View}
use Rattle.book_table.specs.Passes.{PassToken}
use Rattle.book_rule.proofs.TurnLaws.{claims_known}
use Rattle.book_rule.specs.Listed.{count, begins}
use Rattle.book_table.proofs.book.Book.claim_at.Goals as goal

pub compare_exchange-found-requires : goal.compare_exchange-found-requires
compare_exchange-found-requires g c =
    let sizes = sizes_are c.self.inside c.args.self.now c.self.view_is c.self.invariant in
    let pass =
    seated c.self.inside c.args.self.now c.pass.inside c.args.pass.now c.self.view_is
    c.pass.view_is c.self.invariant c.requires.own.own in
    let me = sym (ap (λ (p : PassToken). p.view) c.pass.view_is) in
    let key = sym sizes.key in
    let free = subst (λ (v : View). v.hand.holds ≡ false) me c.requires.own.empty in
    let seen = subst (λ (v : View). c.args.turn ≡ v.seen) me c.requires.seen in
    let more = subst (λ (l : Listing). c.args.turn < 2 * count l) key c.requires.more in
    let start = subst (λ (l : Listing). c.args.start ≡ begins l (c.args.turn / 2)) key
    c.requires.known in (
      pass.table,
      omega (arith, sizes.wide),
      claims_known _ _ _ _ pass.own free c.args.turn _ (sym c.requires.aim ∙ start) seen
          c.requires.even more,
    )

pub overflow_cast-position : goal.overflow_cast-position
overflow_cast-position g c =
    let sizes = sizes_are c.self.inside c.args.self.now c.self.view_is c.self.invariant in
    omega (arith, sizes.few, c.requires.more)
