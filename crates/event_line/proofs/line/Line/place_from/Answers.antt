use Rattle.std.proofs.Common.{max, ◌-◌, ◌≤◌, length, sym, subst, arith, length-set}
use Rattle.rc_instance.specs.Project.{AreDemands}
use Rattle.rc_instance.specs.Usage.{IsLeastFrom, rest_time}
use Rattle.event_line.specs.Rows.{HasRoomFor}
use Rattle.event_line.specs.Journal.{bookings_in}
use Rattle.event_line.specs.Timeline.{Timeline, CanPlaceFrom}
use Rattle.event_line.specs.LineView.{timeline_of}
use Rattle.event_line.proofs.KeepLaws.{kept_entry, kept_nodes, kept_at_rest, kept_booked, kept_view}
use Rattle.event_line.proofs.PlaceLaws.{rest_has_room, rest_within, least_found}
use Rattle.event_line.proofs.line.Line.place_from.Goals as goal
use Rattle.event_line.proofs.line.Line.place_from.Goals.{After-index-demands}

-- what is asked of the line, said of its fields
asked : (c : After-index-demands) → CanPlaceFrom (timeline_of c.self.inside) c.args.activity c.args.from
asked c = subst (λ (v : Timeline). CanPlaceFrom v c.args.activity c.args.from) (sym c.self.view_is) c.requires

-- what is read is what the activity demands
demands_are : (c : After-index-demands)
    → AreDemands c.self.inside.instance.now c.args.activity c.index-demands.result.now
demands_are c =
    kept_at_rest c.self.inside c.args.activity c.duration-duration.result
    c.index-demands.result.now c.self.invariant (asked c).activity (asked c).fits
    c.duration-duration.ensures.value c.if-duration-eq0.false c.index-demands.ensures

-- they have room once all else is over
room_at_rest : (c : After-index-demands)
    → HasRoomFor c.self.inside.axis.chain.periods c.self.inside.axis.free.rows
    c.index-demands.result.now (max c.args.from (rest_time c.self.inside.instance.now
    (bookings_in c.self.inside.entries.items))) c.duration-duration.result
room_at_rest c =
    let inside = c.self.inside in
    rw c.duration-duration.ensures.value
    (rest_has_room inside.instance.now (length inside.base.chain.periods) inside.axis.chain.periods
    inside.axis.free.rows c.index-demands.result.now inside.entries.items c.args.activity
    c.args.from c.self.invariant.shown (demands_are c) (asked c).fits)

pub least_start-span-requires-clause-exists : goal.least_start-span-requires-clause-exists
least_start-span-requires-clause-exists c =
    let before = (goal.at.least_start-span-requires-clause-exists c).After-index-demands in
    let project = c.self.inside.instance.now in
    let bookings = bookings_in c.self.inside.entries.items in
    let can = asked before in
    let rest = rest_within project bookings c.self.invariant.limits can.ended in
    let short = c.duration-duration.ensures.within in
    let from = can.from in
    (max c.args.from (rest_time project bookings), omega arith, omega arith, room_at_rest before)

pub book-entry-requires-clause-end : goal.book-entry-requires-clause-end
book-entry-requires-clause-end c =
    let before = (goal.at.book-entry-requires-clause-end c).After-index-demands in
    let project = c.self.inside.instance.now in
    let bookings = bookings_in c.self.inside.entries.items in
    let can = asked before in
    let rest = rest_within project bookings c.self.invariant.limits can.ended in
    let least = c.least_start-span.ensures.least (max c.args.from (rest_time project bookings))
    (omega arith) (room_at_rest before) in
    let short = c.duration-duration.ensures.within in
    let from = can.from in
    omega arith

pub book-entry-requires-clause-nodes : goal.book-entry-requires-clause-nodes
book-entry-requires-clause-nodes c =
    let can = asked (goal.at.book-entry-requires-clause-nodes c).After-index-demands in
    kept_nodes c.self.inside c.args.activity c.self.invariant can.activity can.unbooked

pub push_reserved-requires : goal.push_reserved-requires
push_reserved-requires c =
    let can = asked (goal.at.push_reserved-requires c).After-index-demands in
    let room = kept_entry c.self.inside c.args.activity c.self.invariant can.activity can.unbooked in
    omega arith

pub invariant_of-self : goal.invariant_of-self
invariant_of-self c =
    let before = (goal.at.invariant_of-self c).After-index-demands in
    let can = asked before in
    let entry = c.book-entry.result in
    let booked = c.book-entry.ensures in
    kept_booked c.self.inside c.book-entry.new.self c.push_reserved.new.self _ c.args.activity c.duration-duration.result
    c.least_start-span.result.start entry c.index-demands.result.now c.self.invariant
    (demands_are before) can.activity can.unbooked c.duration-duration.ensures.value
    c.if-duration-eq0.false booked.longer booked.few booked.booked booked.entry booked.room
    booked.width c.push_reserved.ensures.items c.push_reserved.ensures.capacity
    (length-set c.self.inside.ends.items (c.args.activity - 1) entry.end)

pub returns : goal.returns
returns c =
    let before = (goal.at.returns c).After-index-demands in
    let inside = c.self.inside in
    let project = inside.instance.now in
    let bookings = bookings_in inside.entries.items in
    let span = c.least_start-span.result in
    let found = rw c.duration-duration.ensures.value at c.least_start-span.ensures in
    record {
      least = subst (λ (v : Timeline). IsLeastFrom v.project v.bookings c.args.activity c.args.from
          span.start) c.self.view_is
          (least_found project (length inside.base.chain.periods) inside.axis.chain.periods
          inside.axis.free.rows c.index-demands.result.now inside.entries.items c.args.activity
          c.args.from span.start span.first span.last c.self.invariant.shown (demands_are before)
          c.node_or_head-near.ensures.chain found.after found.first found.last found.room
          found.least);
      booked = kept_view inside c.args.self.now c.push_reserved.new.self.items c.book-entry.result
          c.book-entry.new.self.chain.periods c.args.activity span.start
          c.duration-duration.result c.self.view_is c.push_reserved.ensures.items
          c.book-entry.ensures.entry;
      within = subst (λ (v : Timeline). span.start ≤ max c.args.from (rest_time v.project v.bookings))
          c.self.view_is
          (c.least_start-span.ensures.least (max c.args.from (rest_time project bookings))
          (omega arith) (room_at_rest before));
    }
