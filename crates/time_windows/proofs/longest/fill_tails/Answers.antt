use Rattle.std.proofs.Common.{◌≡◌, ℕ, ◌-◌, length, slice_index, subst, ap, arith}
use Rattle.rc_instance.specs.Project.{Project, duration}
use Rattle.time_windows.specs.Windows.{tail_of}
use Rattle.time_windows.proofs.TableLaws.{ShowsPlaces, ShowsPlaces-all}
use Rattle.time_windows.proofs.FillLaws.{tail_step, none_filled}
use Rattle.time_windows.proofs.longest.fill_tails.Goals as goal

pub loop-place-init : goal.loop-place-init
loop-place-init c = none_filled _ _ _ _ c.requires.small

pub longest_tail-requires-clause-small : goal.longest_tail-requires-clause-small
longest_tail-requires-clause-small c = c.loop-place.invariant.small

pub loop-place-preserved : goal.loop-place-preserved
loop-place-preserved c =
    let project = c.args.net.now.project in
    let order = c.order-order.result.now in
    let a = slice_index order (c.loop-place.place - 1) in
    let takes = ap (λ (p : Project). duration p a) c.instance.ensures.value in
    tail_step project order c.loop-place.tails c.loop-place.place c.duration-duration.result
    c.longest_tail.result c.order-order.ensures.limits c.order-order.ensures.feasible
    (omega (arith, c.requires.count)) (omega arith) (omega arith) c.loop-place.invariant
    (omega (arith, c.duration-duration.ensures.value)) c.longest_tail.ensures.value

pub returns : goal.returns
returns c =
    let order = c.order-order.result.now in
    let project = c.args.net.now.project in
    let all : c.loop-place.place ≡ 0 = omega arith in
    let tails = c.loop-place.tails in
    ShowsPlaces-all (tail_of project) project order tails c.order-order.ensures.feasible
    (omega (arith, c.requires.count))
    (subst (λ (low : ℕ). ShowsPlaces (tail_of project) order tails low (length order)) all
    c.loop-place.invariant.shown)
