use Rattle.std.specs.Prelude.{Ok}
use Rattle.crossbeam_queue.specs.Passes.{view, IsPassOf}
use Rattle.work_queue.specs.Work.{HasDone}
use Rattle.work_queue.proofs.answers.work_on.Given as goal

abbrev pub invariant-loop : goal.invariant-loop
invariant-loop g l = record {
  queue : IsPassOf l.queue l.pass;
  done : HasDone (λ job x. goal.W-post g l.work l.number job (Ok x)) (view l.fn.pass) (view l.pass) l.done.items;
}
