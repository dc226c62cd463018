use Rattle.std.proofs.Common.{ℕ, ◌-◌, ◌<◌, length, slice_index, ap, arith}
use Rattle.rc_instance.specs.Project.{activity_count}
use Rattle.time_windows.proofs.TableLaws.{greatest-map-more}
use Rattle.time_windows.proofs.longest.longest_tail.Goals as goal

pub loop-after-preserved : goal.loop-after-preserved
loop-after-preserved c =
    let tails = c.args.tails.now in
    let items = c.successors-after-items.result.now in
    let i = c.loop-after.after-index in
    let more = greatest-map-more (λ (b : ℕ). slice_index tails (b - 1)) items i (omega arith) in
    let is = c.successors-after-items.ensures.within.within i 0 (omega arith) in
    let inside : slice_index items i - 1 < length tails =
    omega (arith, c.requires.count, is.0, is.1, ap activity_count c.instance.ensures.value) in
    record {
      value = omega arith;
      within = omega (arith, c.requires.small (slice_index items i - 1) 0 inside);
    }
