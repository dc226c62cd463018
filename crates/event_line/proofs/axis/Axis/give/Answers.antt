use Rattle.std.proofs.Common.{length, get_or, ap, arith}
use Rattle.event_line.specs.Chain.{Nodes}
use Rattle.event_line.proofs.RowLaws.{given_more, row_left}
use Rattle.event_line.proofs.axis.Axis.give.Goals as goal

pub give-requires-clause-fits : goal.give-requires-clause-fits
give-requires-clause-fits c = λ j h.
    let l = c.loop-self in
    let periods = l.self.chain.periods in
    let fits = rw (← l.invariant.0) at c.requires.fits in
    let until = c.period-until.ensures.value in
    let same = ap (λ (n : Nodes). get_or n.periods c.args.end 0) l.invariant.0 in
    let here = fits.each l.node j l.invariant.2 h l.invariant.3 (omega arith) in
    let left = row_left periods l.self.free.rows c.args.self.now.free.rows c.args.demands.now
    (get_or periods c.args.first 0) l.node j l.invariant.5 l.invariant.2 h in
    omega arith

pub loop-self-preserved : goal.loop-self-preserved
loop-self-preserved c =
    let l = c.loop-self in
    let near = c.next-node.ensures.neighbours in
    let inside = c.requires.end in
    let e = ap (λ (n : Nodes). length n.periods) l.invariant.0 in
    let until = c.period-until.ensures.value in
    let until' = ap (λ (n : Nodes). get_or n.periods c.args.end 0) l.invariant.0 in
    let rise = near.rise in
    let width = c.give.ensures.width in (
      l.invariant.0,
      omega arith,
      near.second,
      omega arith,
      near.none c.args.end (omega arith) (omega (arith, c.period.ensures.value, c.loop-self-test.true)),
      given_more l.self.chain.periods c.args.self.now.free.rows l.self.free.rows
          c.give.new.self.rows c.args.demands.now (get_or l.self.chain.periods c.args.first 0) l.node
          c.next-node.result c.next-node.ensures.chain near l.invariant.3 l.invariant.5
          c.give.ensures.given,
    )
