use Rattle.std.proofs.Common.{◌≡◌, ℕ, ◌<◌, true, sym, ap, subst, ◌∙◌, arith}
use Rattle.book_table.proofs.BookLaws.{sizes_are, seated}
use Rattle.activity_net.specs.Network.{Listing}
use Rattle.book_rule.specs.declared.view.View.{View}
use Rattle.book_table.specs.Passes.{PassToken}
use Rattle.book_rule.proofs.HandLaws.{adds}
use Rattle.book_rule.specs.Listed.{need}
use Rattle.book_rule.specs.Layout.{profile_word}
use Rattle.book_rule.specs.Searches.{is_chosen}
use Rattle.book_rule.specs.Knowledge.{IsNextWord}
use Rattle.capacity_profile.specs.Lanes.{lane_of}
use Rattle.book_rule.specs.declared.view.Search.{Search}
use Rattle.book_rule.specs.Listed.{lasts, width, IsBookable}
use Rattle.book_rule.proofs.ListedLaws.{lasts-small, width-small}
use Rattle.book_rule.specs.declared.view.Hand.{Hand}
use Rattle.book_table.proofs.book.Book.add_profile.Goals as goal

pub fetch_add-requires : goal.fetch_add-requires
fetch_add-requires c =
    let sizes = sizes_are c.self.inside c.args.self.now c.self.view_is c.self.invariant in
    let pass =
    seated c.self.inside c.args.self.now c.pass.inside c.args.pass.now c.self.view_is
    c.pass.view_is c.self.invariant c.requires.own.own in
    let me = sym (ap (λ (p : PassToken). p.view) c.pass.view_is) in
    let key = sym sizes.key in
    let full = subst (λ (v : View). v.hand.holds ≡ true) me c.requires.own.full in
    let chosen = subst (λ (v : View). is_chosen c.self.inside.table.shared.key v.search ≡ true) me
    (subst (λ (l : Listing). is_chosen l c.args.pass.now.view.search ≡ true)
    key c.requires.chosen) in
    let next =
    subst (λ (v : View). IsNextWord c.self.inside.table.shared.key v c.args.period c.args.index)
    me (subst (λ (l : Listing). IsNextWord l c.args.pass.now.view c.args.period c.args.index)
    key c.requires.next) in
    let at = subst (λ (l : Listing). c.profile_place-word.result
    ≡ profile_word l c.args.period c.args.index) key c.profile_place-word.ensures.value in
    let needs =
    subst (λ (l : Listing). (i : ℕ) → i < 4 → lane_of c.demand_word-demand.result i
    ≡ need l c.pass.inside.search.position c.args.index i) key c.demand_word-demand.ensures in
    let lanes =
    subst (λ (s : Search). (i : ℕ) → i < 4 → lane_of c.demand_word-demand.result i
    ≡ need c.self.inside.table.shared.key s.position c.args.index i)
    (sym c.pass.invariant.search) needs in (
      pass.table,
      omega (arith, sizes.wide, c.profile_place-word.ensures.within),
      adds _ _ _ _ pass.own full c.args.period c.args.index _ c.demand_word-demand.result chosen
          next at lanes c.demand_word-demand.type_inv,
    )

pub next_reach-pass-inside-requires-clause-words : goal.next_reach-pass-inside-requires-clause-words
next_reach-pass-inside-requires-clause-words c =
    let sizes = sizes_are c.self.inside c.args.self.now c.self.view_is c.self.invariant in
    let pass =
    seated c.self.inside c.args.self.now c.pass.inside c.args.pass.now c.self.view_is
    c.pass.view_is c.self.invariant c.requires.own.own in
    let me = sym (ap (λ (p : PassToken). p.view) c.pass.view_is) in
    let key = sym sizes.key in
    let next =
    subst (λ (v : View). IsNextWord c.self.inside.table.shared.key v c.args.period c.args.index)
    me (subst (λ (l : Listing). IsNextWord l c.args.pass.now.view c.args.period c.args.index)
    key c.requires.next) in
    let bookable = subst (λ (l : Listing). IsBookable l) key sizes.bookable in
    let hand = c.pass.invariant.hand in
    let narrow = width-small c.self.inside.table.shared.key bookable in
    let columns = sizes.columns ∙ ap (λ (l : Listing). width l) key in
    let index = subst (λ (h : Hand). c.args.index ≡ h.added.words) hand next.index in
    let inside = next.inside in
    (omega arith, omega arith)

pub next_reach-pass-inside-requires-clause-periods
    : goal.next_reach-pass-inside-requires-clause-periods
next_reach-pass-inside-requires-clause-periods c =
    let sizes = sizes_are c.self.inside c.args.self.now c.self.view_is c.self.invariant in
    let pass =
    seated c.self.inside c.args.self.now c.pass.inside c.args.pass.now c.self.view_is
    c.pass.view_is c.self.invariant c.requires.own.own in
    let me = sym (ap (λ (p : PassToken). p.view) c.pass.view_is) in
    let key = sym sizes.key in
    let next =
    subst (λ (v : View). IsNextWord c.self.inside.table.shared.key v c.args.period c.args.index)
    me (subst (λ (l : Listing). IsNextWord l c.args.pass.now.view c.args.period c.args.index)
    key c.requires.next) in
    let bookable = subst (λ (l : Listing). IsBookable l) key sizes.bookable in
    let hand = c.pass.invariant.hand in
    let more =
    subst (λ (h : Hand). h.added.periods
    < lasts c.self.inside.table.shared.key c.pass.inside.seat.me.0.search.position)
    hand next.more in
    omega (arith, lasts-small c.self.inside.table.shared.key bookable _ pass.own.searched, more)
