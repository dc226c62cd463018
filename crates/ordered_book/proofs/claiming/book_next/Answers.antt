use Rattle.std.proofs.Common.{◌≡◌, ◌/◌, true, refl, ap}
use Rattle.book_rule.specs.declared.view.View.{View}
use Rattle.ordered_book.proofs.AdvancedLaws.{booked_more}
use Rattle.ordered_book.proofs.TryLaws.{turn_seen, offer_in_hand, one_booked, one_loads, cost_within}
use Rattle.ordered_book.proofs.claiming.book_next.Goals as goal

pub returns-clause-booked : goal.returns-clause-booked
returns-clause-booked g c =
    let list = c.args.book.now.listing in
    let u = c.args.pass.now.view in
    let v = c.load_offer.new.pass.view in
    let w = c.claim.new.pass.view in
    let z = c.book_in_hand.new.pass.view in
    let i = c.args.turn / 2 in
    let told = c.load_offer.ensures.told in
    let won = c.in_default.ensures.won in
    let full : w.hand.holds ≡ true = ap (λ (y : View). y.hand.holds) won in
    let holder = c.claim.ensures.own.own.hand full in
    let booked = c.book_in_hand.ensures.booked in
    let loads = one_loads list u v w z i c.args.turn c.load_offer.result _ refl told.view
    told.offered won holder booked in
    let few = cost_within list u.offered i z.loaded w.loaded loads in
    let hand = offer_in_hand u v w i c.args.turn c.load_offer.result told.view won in
    let one = one_booked list u w z i hand booked few in
    booked_more list u z c.load_turn.new.pass.view one
    (turn_seen list z c.load_turn.new.pass.view _ c.load_turn.ensures.told.view)
