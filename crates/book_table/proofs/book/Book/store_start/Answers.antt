use Rattle.std.proofs.Common.{◌≡◌, ◌+◌, ◌<◌, true, sym, ap, subst, arith}
use Rattle.book_table.proofs.BookLaws.{sizes_are, seated}
use Rattle.activity_net.specs.Network.{Listing}
use Rattle.book_rule.specs.declared.view.View.{View}
use Rattle.book_table.specs.Passes.{PassToken}
use Rattle.book_rule.proofs.HandLaws.{stores}
use Rattle.book_rule.specs.declared.view.Search.{Search}
use Rattle.book_rule.specs.Listed.{count}
use Rattle.book_rule.specs.Searches.{is_chosen}
use Rattle.book_rule.specs.Reaches.{is_whole}
use Rattle.book_table.proofs.book.Book.store_start.Goals as goal

pub store-requires : goal.store-requires
store-requires c =
    let sizes = sizes_are c.self.inside c.args.self.now c.self.view_is c.self.invariant in
    let pass =
    seated c.self.inside c.args.self.now c.pass.inside c.args.pass.now c.self.view_is
    c.pass.view_is c.self.invariant c.requires.own.own in
    let me = sym (ap (λ (p : PassToken). p.view) c.pass.view_is) in
    let key = sym sizes.key in
    let full = subst (λ (v : View). v.hand.holds ≡ true) me c.requires.own.full in
    let chosen = subst (λ (v : View). is_chosen c.self.inside.table.shared.key v.search ≡ true) me
    (subst (λ (l : Listing). is_chosen l c.args.pass.now.view.search ≡ true)
    key c.requires.chosen) in
    let whole =
    subst (λ (v : View). is_whole c.self.inside.table.shared.key v.search.position v.hand.added
    ≡ true) me
    (subst (λ (l : Listing). is_whole l c.args.pass.now.view.search.position
    c.args.pass.now.view.hand.added ≡ true) key c.requires.whole) in
    let mine = sym c.pass.invariant.search in
    let searched = subst (λ (s : Search). s.position < count c.self.inside.table.shared.key)
    c.pass.invariant.search pass.own.searched in
    let there =
    subst (λ (l : Listing). c.pass.inside.search.position < count l) sizes.key searched in (
      pass.table,
      omega (arith, sizes.wide, there),
      stores _ _ _ _ pass.own full _ _ chosen whole (ap (λ (s : Search). 32 + s.position) mine)
          (ap (λ (s : Search). s.least + 1) mine),
    )
