use Rattle.std.proofs.Common.{◌≡◌, ◌≢◌, ◌++◌, map}
use Rattle.std.specs.Prelude.{None, Some}
use Rattle.std.specs.List.{All}
use Rattle.std.specs.Vec.Iter.{into_iter_items}
use Rattle.work_queue.proofs.slots.values_of.Given as goal

abbrev pub invariant-loop-slot : goal.invariant-loop-slot
invariant-loop-slot g l = record {
  can_next : (goal.iterator-loop-slot g).can_next l.slot-iterator;
  is_finite : (goal.iterator-loop-slot g).is_finite l.slot-iterator;
  full : All (λ slot. slot ≢ None) (into_iter_items l.slot-iterator);
  values : map Some l.values.items ++ into_iter_items l.slot-iterator ≡ l.fn.slots.items;
}
