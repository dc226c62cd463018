use Rattle.std.proofs.Common.{◌≡◌, ◌+◌, ◌≤◌, length, IfOk, Ok, All}
use Rattle.std.specs.Vec.Iter.{into_iter_items}
use Rattle.crossbeam_queue.specs.Passes.{view, IsPassOf}
use Rattle.work_queue.specs.Rule.{whole}
use Rattle.work_queue.specs.Work.{IsGiven, IsReturned, AreSlots}
use Rattle.work_queue.proofs.handing.work_all.Given as goal

abbrev pub invariant-loop-one : goal.invariant-loop-one
invariant-loop-one g l = record {
  can_next : (goal.iterator-loop-one g).can_next l.one-iterator;
  is_finite : (goal.iterator-loop-one g).is_finite l.one-iterator;
  queue : IsPassOf l.queue l.pass;
  parts : (view l.pass).parts + length (into_iter_items l.one-iterator) ≡ whole;
  few : length (into_iter_items l.one-iterator) ≤ l.workers;
  pushed : (view l.pass).pushed ≡ l.count;
  returned : All (λ one. IfOk one (IsReturned l.queue l.workers l.count
      (λ w i x. goal.W-post g l.work w i (Ok x)))) (into_iter_items l.one-iterator);
  size : length l.slots.items ≡ l.count;
  slots : AreSlots (IsGiven l.workers (λ w i x. goal.W-post g l.work w i (Ok x)))
      (view l.pass).taken l.slots.items;
}
