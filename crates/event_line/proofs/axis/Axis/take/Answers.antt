use Rattle.std.proofs.Common.{◌<◌, length, get_or, ap, arith}
use Rattle.event_line.specs.Chain.{Nodes}
use Rattle.event_line.proofs.ChainLaws.{node_before}
use Rattle.event_line.proofs.RowLaws.{taken_more, room_left}
use Rattle.event_line.proofs.axis.Axis.take.Goals as goal

pub take-requires-clause-room : goal.take-requires-clause-room
take-requires-clause-room c =
    let l = c.loop-node in
    let periods = l.self.chain.periods in
    let chain = rw (← l.invariant.0) at c.requires.chain in
    let room = rw (← l.invariant.0) at c.requires.room in
    let inside = c.requires.end in
    let same = ap (λ (n : Nodes). length n.periods) l.invariant.0 in
    let before = node_before periods l.node c.args.end chain l.invariant.2 (omega arith)
    l.invariant.4 c.loop-node-test.true in
    room_left periods c.args.self.now.free.rows l.self.free.rows c.args.demands.now
    (get_or periods c.args.first 0) l.node l.invariant.5 l.invariant.2
    (room.each l.node l.invariant.2 l.invariant.3 before)

pub next-node-requires-clause-before : goal.next-node-requires-clause-before
next-node-requires-clause-before c =
    let l = c.loop-node in
    let periods = l.self.chain.periods in
    let chain = rw (← l.invariant.0) at c.requires.chain in
    let inside = c.requires.end in
    let same = ap (λ (n : Nodes). length n.periods) l.invariant.0 in
    let end : c.args.end < length periods = omega arith in
    let before = node_before periods l.node c.args.end chain l.invariant.2 end l.invariant.4
    c.loop-node-test.true in
    omega (arith, chain.within c.args.end end)

pub loop-node-preserved : goal.loop-node-preserved
loop-node-preserved c =
    let l = c.loop-node in
    let periods = l.self.chain.periods in
    let near = c.next-node.ensures.neighbours in
    let chain = c.next-node.ensures.chain in
    let inside = c.requires.end in
    let same = ap (λ (n : Nodes). length n.periods) l.invariant.0 in
    let end : c.args.end < length periods = omega arith in
    let before = node_before periods l.node c.args.end chain l.invariant.2 end l.invariant.4
    c.loop-node-test.true in
    let rise = near.rise in
    let width = c.take.ensures.width in (
      l.invariant.0,
      omega arith,
      near.second,
      omega arith,
      near.none c.args.end end before,
      taken_more periods c.args.self.now.free.rows l.self.free.rows c.take.new.self.rows
          c.args.demands.now (get_or periods c.args.first 0) l.node c.next-node.result chain near
          l.invariant.3 l.invariant.5 c.take.ensures.taken,
    )
