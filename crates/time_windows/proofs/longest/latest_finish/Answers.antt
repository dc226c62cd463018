use Rattle.std.proofs.Common.{ℕ, ◌+◌, ◌-◌, slice_index, ap, arith}
use Rattle.rc_instance.specs.Project.{Project, duration}
use Rattle.time_windows.proofs.TableLaws.{greatest-map-more}
use Rattle.time_windows.proofs.longest.latest_finish.Goals as goal

pub loop-before-preserved : goal.loop-before-preserved
loop-before-preserved c =
    let project = c.args.net.now.project in
    let items = c.predecessors-before-items.result.now in
    let i = c.loop-before.before-index in
    let finish = λ (p : ℕ). slice_index c.args.starts.now (p - 1) + duration project p in
    let more = greatest-map-more finish items i (omega arith) in
    let same = ap (λ (p : Project). duration p (slice_index items i)) c.instance.ensures.value in
    omega (arith, c.duration.ensures.value)
