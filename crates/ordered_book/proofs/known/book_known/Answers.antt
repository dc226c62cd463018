use Rattle.std.proofs.Common.{◌≡◌, ◌+◌, ◌/◌, ◌≤◌, true, sym, ap, subst, arith}
use Rattle.book_rule.specs.declared.view.View.{View}
use Rattle.book_rule.specs.Searches.{is_chosen}
use Rattle.book_rule.proofs.SearchLaws.{known_search-chosen}
use Rattle.ordered_book.specs.Advanced.{cost_of}
use Rattle.ordered_book.proofs.AdvancedLaws.{booked_more}
use Rattle.ordered_book.proofs.TryLaws.{turn_seen, known_in_hand, one_booked, chosen_booked}
use Rattle.ordered_book.proofs.known.book_known.Goals as goal

pub book_chosen-requires-clause-chosen : goal.book_chosen-requires-clause-chosen
book_chosen-requires-clause-chosen g c =
    let list = c.args.book.now.listing in
    subst (λ (v : View). is_chosen list v.search ≡ true) (sym c.in_default.ensures.won)
    (known_search-chosen list (c.args.turn / 2) c.args.turn c.known_start-start.result)

pub returns-clause-booked : goal.returns-clause-booked
returns-clause-booked g c =
    let list = c.args.book.now.listing in
    let u = c.args.pass.now.view in
    let w = c.claim_known.new.pass.view in
    let z = c.book_chosen.new.pass.view in
    let i = c.args.turn / 2 in
    let won = c.in_default.ensures.won in
    let full : w.hand.holds ≡ true = ap (λ (y : View). y.hand.holds) won in
    let holder = c.claim_known.ensures.own.own.hand full in
    let released = c.book_chosen.ensures.released in
    let same : z.loaded ≡ w.loaded = ap (λ (y : View). y.loaded) released in
    let few : z.loaded ≤ w.loaded + cost_of list u.offered i = omega arith in
    let hand = known_in_hand list u w c.args.turn c.known_start-start.result won in
    let one = one_booked list u w z i hand (chosen_booked list w z holder released) few in
    booked_more list u z c.load_turn.new.pass.view one
    (turn_seen list z c.load_turn.new.pass.view _ c.load_turn.ensures.told.view)
