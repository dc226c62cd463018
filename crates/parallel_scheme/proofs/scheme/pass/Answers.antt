use Rattle.std.proofs.Common.{List, ap₂, sym, ◌∙◌}
use Rattle.rc_instance.specs.Project.{Project}
use Rattle.rc_instance.specs.Usage.{Booking}
use Rattle.event_line.specs.Timeline.{Timeline}
use Rattle.parallel_scheme.proofs.PassLaws.{passing_none, passing_more, passing_all}
use Rattle.parallel_scheme.proofs.scheme.pass.Goals as goal

pub loop-activity-init : goal.loop-activity-init
loop-activity-init c = record {
  project = c.requires.project;
  passing = passing_none c.args.list.now.network.project c.args.list.now.order c.args.time
      c.args.progress.now.end c.args.line.now.bookings c.net-net.ensures.feasible c.requires.time
      c.requires.told.end c.requires.before;
  told = c.requires.told;
}

pub loop-activity-preserved : goal.loop-activity-preserved
loop-activity-preserved c =
    let l = c.loop-activity in
    let inside = rw c.order-order.ensures.value at c.loop-activity-test.true in
    let visited = rw (c.net-net.ensures.value, c.order-order.ensures.value) at
    c.visit.ensures.visited in
    record {
      project = c.visit.ensures.project ∙ l.invariant.project;
      passing = rw c.min-next.ensures
          (passing_more c.args.list.now.network.project c.args.list.now.order c.args.time
          l.activity-index l.next c.visit.result c.args.line.now.bookings l.line.bookings
          c.visit.new.line.bookings c.net-net.ensures.feasible l.invariant.passing inside visited);
      told = rw c.net-net.ensures.value at c.visit.ensures.told;
    }

pub returns-clause-booked : goal.returns-clause-booked
returns-clause-booked c =
    let l = c.loop-activity in
    let all = rw c.order-order.ensures.value at c.loop-activity-test.false in
    ap₂ (λ (p : Project) (bs : List Booking).
    let t : Timeline = record { project = p; bookings = bs } in t)
    (l.invariant.project ∙ sym c.requires.project)
    (passing_all c.args.list.now.network.project c.args.list.now.order c.args.time
    l.activity-index l.next c.args.line.now.bookings l.line.bookings c.net-net.ensures.feasible
    l.invariant.passing all)
