use Rattle.std.proofs.Common.{ap, arith}
use Rattle.std.proofs.lemmas.List.{take_all}
use Rattle.std.proofs.lemmas.Bool.Decides.{nat_tests}
use Rattle.rc_instance.specs.Project.{capacity}
use Rattle.time_windows.specs.CapacityBound.{top_capacity}
use Rattle.time_windows.proofs.CapacityLaws.{top_among, top_among-more}
use Rattle.time_windows.proofs.capacity.top_capacity.Goals as goal
use Rattle.time_windows.proofs.capacity.top_capacity.Goals.{then-change-resource, else-change-resource}

pub loop-index-preserved : goal.loop-index-preserved
loop-index-preserved c =
    let k = c.args.resource in
    let change = c.change-change.result in
    let more = top_among-more k (capacity c.args.instance.now k) c.args.instance.now.changes
    c.loop-index.index change c.change-change.ensures in
    elim c.if-change-resource.branch [
      | then-change-resource w ↦ grind (arith, nat_tests, more)
      | else-change-resource w ↦ grind (arith, nat_tests, more)
    ]

pub returns : goal.returns
unfolding top_capacity
returns c =
    let k = c.args.resource in
    let changes = c.args.instance.now.changes in
    let all = take_all c.loop-index.index changes (omega arith) in
    omega (arith, ap (top_among k (capacity c.args.instance.now k)) all)
