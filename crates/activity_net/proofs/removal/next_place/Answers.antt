use Rattle.std.proofs.Common.{◌<◌, ◌≤◌, get_or, arith}
use Rattle.std.proofs.lemmas.List.{take_all}
use Rattle.activity_net.proofs.RemovalLaws.{next_place_more}
use Rattle.activity_net.proofs.removal.next_place.Goals as goal

pub loop-b-preserved : goal.loop-b-preserved
loop-b-preserved c =
    let place = c.loop-b.place in
    let next = c.min-place.result in
    let some = c.requires c.loop-b.b-index 0 c.loop-b-test.true in
    let lower : next ≤ place = omega (arith, c.min-place.ensures) in
    let here : next < get_or c.args.successors.now c.loop-b.b-index 0 =
    omega (arith, c.min-place.ensures, some) in (
      omega (arith, lower, c.loop-b.invariant.0),
      next_place_more c.args.successors.now c.loop-b.b-index place next c.loop-b-test.true lower
          here c.loop-b.invariant.1,
    )

pub returns-clause-before : goal.returns-clause-before
returns-clause-before c =
    let whole = take_all c.loop-b.b-index c.args.successors.now (omega arith) in
    rw whole at c.loop-b.invariant.1
