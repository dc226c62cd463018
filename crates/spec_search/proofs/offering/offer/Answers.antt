use Rattle.std.proofs.Common.{◌≡◌, ℕ, ◌≤◌, ◌<◌, max, ap, sym, ◌∙◌, List, slice_index, slice_set, length, arith, get_or-set_same}
use Rattle.book_rule.specs.declared.view.View.{View}
use Rattle.book_rule.specs.Listed.{count}
use Rattle.spec_search.proofs.offering.offer.Goals as goal

-- what stands at a place after the greatest of both was put there
raised-at : (xs : List ℕ) (i x : ℕ) → i < length xs
    → x ≤ slice_index (slice_set xs i (max (slice_index xs i) x)) i
raised-at xs i x within =
    let at : slice_index (slice_set xs i (max (slice_index xs i) x)) i ≡ max (slice_index xs i) x =
    get_or-set_same xs i (max (slice_index xs i) x) 0 within in
    omega arith

pub returns-clause-offered : goal.returns-clause-offered
returns-clause-offered c =
    let list = c.args.book.now.listing in
    let own = c.requires.own.own.own in
    let same = c.requires.position in
    let there : c.args.position < length c.args.pass.now.view.offered =
    omega (arith, own.found, own.offered) in
    let new = ap (λ (v : View). slice_index v.offered c.args.position)
    c.raise_offer.ensures.raised in
    let high = raised-at c.args.pass.now.view.offered c.args.position c.args.start there in
    omega arith
