use Rattle.std.proofs.Common.{◌≡◌, ◌-◌, length}
use Rattle.std.specs.List.{All}
use Rattle.crossbeam_queue.specs.Passes.{view, IsPassOf}
use Rattle.work_queue.specs.Rule.{hand}
use Rattle.work_queue.specs.Work.{IsReady}
use Rattle.work_queue.proofs.crew.crew_of.Given as goal

abbrev pub invariant-loop-number : goal.invariant-loop-number
invariant-loop-number l = record {
  queue : IsPassOf l.queue l.pass;
  known : view l.pass ≡ hand ((view l.fn.pass).parts - l.number) (view l.fn.pass).pushed (view l.fn.pass).taken;
  count : length l.crew.items ≡ l.number;
  ready : All (IsReady l.queue l.workers (view l.fn.pass).pushed) l.crew.items;
}
