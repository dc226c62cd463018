use Rattle.std.proofs.Common.{arith}
use Rattle.priority_rules.proofs.PickingLaws.{some_free}
use Rattle.priority_rules.proofs.choosing.choose_order.Goals as goal

pub overflow_sub-next : goal.overflow_sub-next
overflow_sub-next c =
    let feasible = c.order-listed-end.ensures.feasible in
    let count = feasible.count in
    some_free _ _ _ c.loop-listed.invariant.picked (omega arith)

pub take_next-free-requires-clause-some : goal.take_next-free-requires-clause-some
take_next-free-requires-clause-some c =
    let feasible = c.order-listed-end.ensures.feasible in
    let count = feasible.count in
    some_free _ _ _ c.loop-listed.invariant.picked (omega arith)
