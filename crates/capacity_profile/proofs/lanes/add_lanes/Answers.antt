use Rattle.std.proofs.Common.{arith}
use Rattle.capacity_profile.proofs.LaneLaws.{lanes_add}
use Rattle.capacity_profile.proofs.lanes.add_lanes.Goals as goal

pub overflow_add-result : goal.overflow_add-result
overflow_add-result c =
    let sum =
    lanes_add c.args.word c.args.amount c.ranges.word.fits c.ranges.amount.fits c.requires in
    let small = sum.0 in
    omega arith

pub returns-clause-lanes : goal.returns-clause-lanes
returns-clause-lanes c =
    (lanes_add c.args.word c.args.amount c.ranges.word.fits c.ranges.amount.fits c.requires).1
