use Rattle.std.proofs.Common.{◌≡◌, ◌-◌, take, refl, subst, arith}
use Rattle.rc_instance.specs.Project.{activity_count}
use Rattle.priority_rules.specs.Choosing.{AreFree}
use Rattle.priority_rules.specs.Picking.{picking}
use Rattle.priority_rules.proofs.CountingLaws.{counted_none, counted_waits, counted_frees, counted_numbers, counted_all}
use Rattle.priority_rules.proofs.PickingLaws.{picked_none}
use Rattle.priority_rules.proofs.choosing.count_predecessors.Goals as goal
use Rattle.priority_rules.proofs.choosing.count_predecessors.Goals.{then-count-eq0, else-count-eq0}

pub loop-activity-init : goal.loop-activity-init
loop-activity-init c = counted_none _ _ _ _

pub add-requires-clause-numbers : goal.add-requires-clause-numbers
add-requires-clause-numbers c =
    let count = c.order.ensures.feasible.count in
    counted_numbers c.args.net.now.project c.args.keys.now c.loop-activity.waiting
    c.loop-activity.pile c.loop-activity.activity c.loop-activity.free c.loop-activity.invariant
    (omega arith)

pub loop-activity-preserved : goal.loop-activity-preserved
loop-activity-preserved c =
    let l = c.loop-activity in
    let count = c.order.ensures.feasible.count in
    elim c.if-count-eq0.branch [
      | then-count-eq0 w ↦ rw (w.pile-is, w.free-is)
          (counted_frees c.args.net.now.project c.args.keys.now l.waiting l.pile w.add.new.pile
          l.activity l.free _ l.invariant (omega arith) (omega arith)
          c.predecessor_count-count.ensures (omega arith) w.add.ensures.added
          w.add.ensures.falling)
      | else-count-eq0 w ↦ rw (w.pile-is, w.free-is)
          (counted_waits c.args.net.now.project c.args.keys.now l.waiting l.pile l.activity l.free _
          l.invariant (omega arith) (omega arith) c.predecessor_count-count.ensures (omega arith))
    ]

pub returns : goal.returns
returns c =
    let l = c.loop-activity in
    let feasible = c.order.ensures.feasible in
    let count = feasible.count in
    let all : l.activity - 1 ≡ activity_count c.args.net.now.project = omega arith in
    picked_none c.args.net.now.project c.order.result.now c.args.keys.now
    (picking l.waiting l.pile l.free 0) feasible c.order.ensures.limits
    (record { waiting = omega arith; pile = omega arith }) refl (omega arith)
    (counted_all _ _ _ _ _ _ l.invariant (omega arith))
    (subst (λ n. AreFree n l.waiting (take l.free l.pile)) all l.invariant.are_free)
    l.invariant.falling
