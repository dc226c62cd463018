use Rattle.std.proofs.Common.{arith}
use Rattle.event_line.specs.Rows.{HasRoom}
use Rattle.event_line.proofs.SearchLaws.{searched_full, searched_room}
use Rattle.event_line.proofs.axis.Axis.least_start.Goals as goal
use Rattle.event_line.proofs.axis.Axis.least_start.Goals.{then-full, else-full}

pub overflow_add-start : goal.overflow_add-start
overflow_add-start c =
    let l = c.loop-start in
    let periods = c.args.self.now.chain.periods in
    let free = c.args.self.now.free.rows in
    let soon = c.requires.exists.2 in
    elim c.if-full.branch [
      | then-full w ↦
          let full : HasRoom free c.args.demands.now l.node → ⊥ = λ room.
          let is = c.has_room-full.ensures.1 room in
          let off = rw is at w.if-full.true in
          cc in
          let later = searched_full periods free c.args.demands.now c.args.duration c.args.from l.start
          l.first l.node c.next-next.result l.invariant c.requires.duration
          c.next-next.ensures.neighbours full in
          let start = later.least c.requires.exists.0 c.requires.exists.1 c.requires.exists.3 in
          let period = c.period-period.ensures.value in
          let is = w.start-is in
          omega arith
      | else-full w ↦
          let start = l.invariant.least c.requires.exists.0 c.requires.exists.1 c.requires.exists.3 in
          let is = w.start-is in
          omega arith
    ]

pub loop-start-preserved : goal.loop-start-preserved
loop-start-preserved c =
    let l = c.loop-start in
    let periods = c.args.self.now.chain.periods in
    let free = c.args.self.now.free.rows in
    elim c.if-full.branch [
      | then-full w ↦
          let full : HasRoom free c.args.demands.now l.node → ⊥ = λ room.
          let is = c.has_room-full.ensures.1 room in
          let off = rw is at w.if-full.true in
          cc in
          rw (w.start-is, w.first-is, c.period-period.ensures.value)
          (searched_full periods free c.args.demands.now c.args.duration c.args.from l.start l.first
          l.node c.next-next.result l.invariant c.requires.duration c.next-next.ensures.neighbours
          full)
      | else-full w ↦
          let room : HasRoom free c.args.demands.now l.node = grind arith in
          let start = w.start-is in
          let period = c.period-period.ensures.value in
          let before = c.if-start-duration.false in
          rw (w.start-is, w.first-is)
          (searched_room periods free c.args.demands.now c.args.duration c.args.from l.start l.first
          l.node c.next-next.result l.invariant c.next-next.ensures.chain
          c.next-next.ensures.neighbours room (omega arith))
    ]
