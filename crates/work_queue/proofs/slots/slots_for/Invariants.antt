use Rattle.std.proofs.Common.{◌≡◌, length, None, All}
use Rattle.work_queue.proofs.slots.slots_for.Given as goal

abbrev pub invariant-loop-filled : goal.invariant-loop-filled
invariant-loop-filled g l = record {
  count : length l.slots.items ≡ l.filled;
  empty : All (λ slot. slot ≡ None) l.slots.items;
}
