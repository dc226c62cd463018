use Rattle.std.proofs.Common.{◌≡◌, []}
use Rattle.crossbeam_queue.specs.Passes.{view, IsPassOf}
use Rattle.work_queue.specs.Rule.{hand, whole}
use Rattle.work_queue.proofs.queue.fill.Given as goal

abbrev pub invariant-loop-job : goal.invariant-loop-job
invariant-loop-job g l = record {
  queue : IsPassOf l.queue l.pass;
  pushed : view l.pass ≡ hand whole l.job [];
}
