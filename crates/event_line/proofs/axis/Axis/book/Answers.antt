use Rattle.std.proofs.Common.{◌+◌, ap, arith}
use Rattle.event_line.specs.Chain.{Nodes}
use Rattle.event_line.proofs.RowLaws.{room_of_span, booked_from}
use Rattle.event_line.proofs.axis.Axis.book.Goals as goal

pub take-requires-clause-room : goal.take-requires-clause-room
take-requires-clause-room c =
    let old = c.args.self.now in
    let now = c.split_both-first.new.self in
    let made = c.split_both-first.ensures in
    let nodes = c.split_both-first.result in
    let span = c.args.span in
    let some = c.requires.duration in
    rw c.copied-own.ensures (room_of_span old.chain.periods old.free.rows now.chain.periods now.free.rows
    c.args.demands.now span.first span.last nodes.0 nodes.1 span.start
    (span.start + c.args.duration) made.refined c.requires.room c.requires.first c.requires.last
    (omega arith) made.first made.end)

pub returns-clause-booked : goal.returns-clause-booked
returns-clause-booked c =
    let old = c.args.self.now in
    let now = c.split_both-first.new.self in
    let new = c.take.new.self in
    let made = c.split_both-first.ensures in
    let same = ap (λ (n : Nodes). n.periods) c.take.ensures.chain in
    let taken = rw (made.first, made.end, c.copied-own.ensures) at c.take.ensures.taken in
    rw same (booked_from old.chain.periods old.free.rows now.chain.periods now.free.rows
    new.free.rows c.args.demands.now c.args.span.start (c.args.span.start + c.args.duration)
    made.refined taken)
