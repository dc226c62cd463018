use Rattle.std.proofs.Common.{◌≡◌, ◌-◌, ◌*◌, ◌^◌, ◌≤◌, take, sum}
use Rattle.rcpsp_run.proofs.commands.trial.sum_of_starts.Given as goal

abbrev pub invariant-loop-activity : goal.invariant-loop-activity
invariant-loop-activity l = record {
  so_far : l.sum ≡ sum (take (l.activity - 1) l.schedule);
  small : l.sum ≤ (l.activity - 1) * 2 ^ 32;
}
