use Rattle.std.proofs.Common.{◌-◌, length, sym, subst, arith, length-set}
use Rattle.rc_instance.specs.Project.{AreDemands}
use Rattle.rc_instance.specs.Usage.{IsLastBy}
use Rattle.event_line.specs.Rows.{HasRoomFor}
use Rattle.event_line.specs.Journal.{bookings_in}
use Rattle.event_line.specs.Timeline.{Timeline, CanPlaceBy}
use Rattle.event_line.specs.LineView.{timeline_of}
use Rattle.event_line.proofs.FitLaws.{room_for_fits}
use Rattle.event_line.proofs.StateLaws.{shown_marked}
use Rattle.event_line.proofs.KeepLaws.{kept_entry, kept_nodes, kept_from_fits, kept_booked, kept_view}
use Rattle.event_line.proofs.PlaceLaws.{last_found}
use Rattle.event_line.proofs.line.Line.place_last.Goals as goal
use Rattle.event_line.proofs.line.Line.place_last.Goals.{After-index-demands}

-- what is asked of the line, said of its fields
asked : (c : After-index-demands) → CanPlaceBy (timeline_of c.self.inside) c.args.activity c.args.by
asked c = subst (λ (v : Timeline). CanPlaceBy v c.args.activity c.args.by) (sym c.self.view_is) c.requires

-- what is read is what the activity demands
demands_are : (c : After-index-demands)
    → AreDemands c.self.inside.instance.now c.args.activity c.index-demands.result.now
demands_are c =
    kept_from_fits c.self.inside c.args.activity c.duration-duration.result
    (asked c).exists.0 c.index-demands.result.now c.self.invariant (asked c).activity
    (asked c).exists.2 c.duration-duration.ensures.value c.if-duration-eq0.false
    c.index-demands.ensures

pub latest_start-span-requires-clause-exists : goal.latest_start-span-requires-clause-exists
latest_start-span-requires-clause-exists c =
    let before = (goal.at.latest_start-span-requires-clause-exists c).After-index-demands in
    let inside = c.self.inside in
    let project = inside.instance.now in
    let can = asked before in
    let shown = c.self.invariant.shown in
    let d = c.duration-duration.ensures.value in
    let t = can.exists.0 in
    let ends = can.exists.1 in
    let room = room_for_fits project (bookings_in inside.entries.items) inside.axis.chain.periods
    inside.axis.free.rows c.index-demands.result.now c.args.activity t (shown_marked project
    (length inside.base.chain.periods) inside.axis.chain.periods inside.axis.free.rows
    inside.entries.items shown) shown.free (demands_are before) can.exists.2 in (
      t,
      omega arith,
      subst (HasRoomFor inside.axis.chain.periods inside.axis.free.rows
          c.index-demands.result.now t) (sym d) room,
    )

pub book-entry-requires-clause-nodes : goal.book-entry-requires-clause-nodes
book-entry-requires-clause-nodes c =
    let can = asked (goal.at.book-entry-requires-clause-nodes c).After-index-demands in
    kept_nodes c.self.inside c.args.activity c.self.invariant can.activity can.unbooked

pub push_reserved-requires : goal.push_reserved-requires
push_reserved-requires c =
    let can = asked (goal.at.push_reserved-requires c).After-index-demands in
    let room = kept_entry c.self.inside c.args.activity c.self.invariant can.activity can.unbooked in
    omega arith

pub invariant_of-self : goal.invariant_of-self
invariant_of-self c =
    let before = (goal.at.invariant_of-self c).After-index-demands in
    let can = asked before in
    let entry = c.book-entry.result in
    let booked = c.book-entry.ensures in
    kept_booked c.self.inside c.book-entry.new.self c.push_reserved.new.self _ c.args.activity c.duration-duration.result
    c.latest_start-span.result.start entry c.index-demands.result.now c.self.invariant
    (demands_are before) can.activity can.unbooked c.duration-duration.ensures.value
    c.if-duration-eq0.false booked.longer booked.few booked.booked booked.entry booked.room
    booked.width c.push_reserved.ensures.items c.push_reserved.ensures.capacity
    (length-set c.self.inside.ends.items (c.args.activity - 1) entry.end)

pub returns : goal.returns
returns c =
    let before = (goal.at.returns c).After-index-demands in
    let inside = c.self.inside in
    let project = inside.instance.now in
    let span = c.latest_start-span.result in
    let found = rw c.duration-duration.ensures.value at c.latest_start-span.ensures in
    record {
      last = subst (λ (v : Timeline). IsLastBy v.project v.bookings c.args.activity c.args.by
          span.start) c.self.view_is
          (last_found project (length inside.base.chain.periods) inside.axis.chain.periods
          inside.axis.free.rows c.index-demands.result.now inside.entries.items c.args.activity
          c.args.by span.start span.first span.last c.self.invariant.shown (demands_are before)
          c.node_or_head-near.ensures.chain found.ends found.first found.last found.room
          found.latest);
      booked = kept_view inside c.args.self.now c.push_reserved.new.self.items c.book-entry.result
          c.book-entry.new.self.chain.periods c.args.activity span.start
          c.duration-duration.result c.self.view_is c.push_reserved.ensures.items
          c.book-entry.ensures.entry;
    }
