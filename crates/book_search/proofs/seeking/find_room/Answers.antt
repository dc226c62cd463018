use Rattle.std.proofs.Common.{sym, subst, arith}
use Rattle.book_rule.specs.declared.view.Search.{Search}
use Rattle.book_rule.proofs.ListedLaws.{horizon-small, width-small}
use Rattle.book_search.specs.Steps.{IsUnderWay}
use Rattle.book_search.proofs.SoughtLaws.{on_none, under_way}
use Rattle.book_search.proofs.RoomLaws.{not_whole, words-few}
use Rattle.book_search.proofs.seeking.find_room.Goals as goal

pub overflow_add-search : goal.overflow_add-search
overflow_add-search c =
    let under = c.rooms.invariant.under in
    omega
    (arith, under.within, c.lasts-duration.ensures.small, horizon-small c.args.book.now.listing c.requires.bookable)

pub rooms-smaller : goal.rooms-smaller
rooms-smaller c =
    let list = c.args.book.now.listing in
    let under = c.rooms.invariant.under in
    let few = words-few list c.rooms.search under (width-small list c.requires.bookable) in
    omega (arith, few, under.within, c.go_on-search.ensures.further, c.requires.horizon)

pub rooms-init : goal.rooms-init
rooms-init c =
    let list = c.args.book.now.listing in
    record {
      own = c.requires.own;
      is = sym c.search-search.ensures;
      under = subst (λ (s : Search). IsUnderWay list s) (sym c.search-search.ensures)
          (under_way list c.args.pass.now.view.search c.requires.read);
      on = on_none list c.args.pass.now.view;
      lasts = sym c.lasts-duration.ensures.value;
      kept = c.none-floors.ensures _ _;
    }

pub go_on-search-requires-clause-due : goal.go_on-search-requires-clause-due
go_on-search-requires-clause-due c =
    let list = c.args.book.now.listing in
    let under = c.rooms.invariant.under in
    let next = not_whole list c.rooms.search.position c.rooms.search.free under.some
    (sym c.if-is_whole.ensures) in
    let last = c.rooms.invariant.lasts in
    record {
      under = under;
      wide = (next.0, width-small list c.requires.bookable);
      more = next.1;
      ends = omega (arith, c.rooms-test.true, c.requires.horizon);
    }
