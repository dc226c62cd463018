use Rattle.std.proofs.Common.{◌≡◌, length, subst, arith}
use Rattle.time_windows.specs.Windows.{earliest_of}
use Rattle.time_windows.proofs.TableLaws.{ShowsPlaces, ShowsPlaces-all}
use Rattle.time_windows.proofs.FillLaws.{earliest_step, none_filled}
use Rattle.time_windows.proofs.longest.fill_earliest.Goals as goal

pub loop-activity-init : goal.loop-activity-init
loop-activity-init c = none_filled _ _ _ 0 c.requires.small

pub latest_finish-requires-clause-small : goal.latest_finish-requires-clause-small
latest_finish-requires-clause-small c = c.loop-activity.invariant.small

pub loop-activity-preserved : goal.loop-activity-preserved
loop-activity-preserved c =
    earliest_step c.args.net.now.project c.order-activity-items.result.now c.loop-activity.starts
    c.loop-activity.activity-index c.latest_finish.result c.order-activity-items.ensures.limits
    c.order-activity-items.ensures.feasible (omega (arith, c.requires.count)) (omega arith)
    c.loop-activity.invariant c.latest_finish.ensures

pub returns : goal.returns
returns c =
    let order = c.order-activity-items.result.now in
    let all : c.loop-activity.activity-index ≡ length order = omega arith in
    ShowsPlaces-all (earliest_of c.args.net.now.project) c.args.net.now.project order
    c.loop-activity.starts c.order-activity-items.ensures.feasible (omega (arith, c.requires.count))
    (subst (ShowsPlaces (earliest_of c.args.net.now.project) order c.loop-activity.starts 0) all
    c.loop-activity.invariant.shown)
