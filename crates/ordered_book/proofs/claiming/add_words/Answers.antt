use Rattle.std.proofs.Common.{◌≡◌, ◌≤◌, sym, ap, ◌∙◌, arith}
use Rattle.book_rule.specs.declared.view.Reach.{Reach}
use Rattle.book_rule.specs.declared.view.Search.{Search}
use Rattle.book_rule.specs.declared.view.Hand.{Hand}
use Rattle.book_rule.specs.declared.view.View.{View}
use Rattle.book_rule.specs.Listed.{lasts, width}
use Rattle.book_rule.specs.Reaches.{next_reach}
use Rattle.book_rule.proofs.ListedLaws.{horizon-small, width-small}
use Rattle.book_search.proofs.RoomLaws.{not_whole}
use Rattle.ordered_book.proofs.WordLaws.{next_further}
use Rattle.ordered_book.proofs.claiming.add_words.Goals as goal

pub overflow_add-search : goal.overflow_add-search
overflow_add-search c =
    let list = c.args.book.now.listing in
    let first = c.requires.own.own.own.hand c.requires.own.full in
    let holder = c.words.invariant.own.own.own.hand c.words.invariant.own.full in
    let periods = ap (λ (x : Reach). x.periods) c.words.invariant.added in
    let same = ap (λ (v : View). lasts list v.search.position) c.words.invariant.only in
    let least = ap (λ (s : Search). s.least) c.search-search.ensures in
    omega
    (arith, first.exact c.requires.chosen, first.ends, holder.within, horizon-small list c.requires.bookable)

pub words-smaller : goal.words-smaller
words-smaller c =
    let list = c.args.book.now.listing in
    let r = c.words.added in
    let i = c.search-search.result.position in
    let holder = c.words.invariant.own.own.own.hand c.words.invariant.own.full in
    let periods = ap (λ (x : Reach). x.periods) c.words.invariant.added in
    let same : lasts list c.words.pass.view.search.position ≡ lasts list i =
    ap (λ (v : View). lasts list v.search.position) c.words.invariant.only
    ∙ sym (ap (λ (s : Search). lasts list s.position) c.search-search.ensures) in
    let within : r.periods ≤ lasts list i = omega (arith, holder.within) in
    let more = not_whole list i r within (sym c.words-test.ensures) in
    let inside = c.words.invariant.inside more.0 in
    let narrow = width-small list c.requires.bookable in
    let further = next_further (width list) r inside narrow in
    let next : c.hand-in-words.result.added ≡ next_reach (width list) r =
    ap (λ (h : Hand). h.added) c.hand-in-words.ensures
    ∙ (ap (λ (v : View). v.hand.added) c.add_profile.ensures.added
    ∙ ap (next_reach (width list)) c.words.invariant.added) in
    let next_periods = ap (λ (x : Reach). x.periods) next in
    let next_words = ap (λ (x : Reach). x.words) next in
    omega (arith, more.1)
