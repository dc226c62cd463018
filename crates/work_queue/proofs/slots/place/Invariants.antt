use Rattle.std.proofs.Common.{◌≡◌, ◌<◌, length, All}
use Rattle.std.specs.Vec.Iter.{into_iter_items}
use Rattle.work_queue.specs.Work.{placed}
use Rattle.work_queue.proofs.slots.place.Given as goal

abbrev pub invariant-loop-job : goal.invariant-loop-job
invariant-loop-job g l = record {
  can_next : (goal.iterator-loop-job g).can_next l.job-iterator;
  is_finite : (goal.iterator-loop-job g).is_finite l.job-iterator;
  size : length l.slots.items ≡ length l.initial.slots.items;
  within : All (λ one. one.0 < length l.initial.slots.items) (into_iter_items l.job-iterator);
  same : placed l.slots.items (into_iter_items l.job-iterator)
      ≡ placed l.initial.slots.items l.fn.done.items;
}
