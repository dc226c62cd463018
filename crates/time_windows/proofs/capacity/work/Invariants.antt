use Rattle.std.proofs.Common.{◌≡◌, ◌-◌, ◌*◌, ◌^◌, ◌≤◌}
use Rattle.std.specs.List.{sum_by}
use Rattle.rc_instance.specs.Lists.{numbers}
use Rattle.time_windows.specs.CapacityBound.{work_of}
use Rattle.time_windows.proofs.capacity.work.Given as goal

abbrev pub invariant-loop-activity : goal.invariant-loop-activity
invariant-loop-activity l = record {
  value : l.work ≡ sum_by (work_of l.instance l.resource) (numbers (l.activity - 1));
  small : l.work ≤ (l.activity - 1) * 2 ^ 48;
}
