use Rattle.std.proofs.Common.{◌≡◌, ◌≤◌, ◌-◌, map, take, slice_index}
use Rattle.rc_instance.specs.declared.limits.TheConstants.{MAX_DURATION_SUM}
use Rattle.rc_instance.specs.Lists.{greatest}
use Rattle.time_windows.proofs.longest.longest_tail.Given as goal

abbrev pub invariant-loop-after : goal.invariant-loop-after
invariant-loop-after l = record {
  value : l.longest
      ≡ greatest (map (λ b. slice_index l.tails (b - 1)) (take l.after-index l.after-items));
  within : l.longest ≤ MAX_DURATION_SUM;
}
