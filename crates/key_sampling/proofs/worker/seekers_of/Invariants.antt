use Rattle.std.proofs.Common.{◌≡◌, ◌+◌, ◌≤◌, ◌++◌, map, vec_len, vec_capacity}
use Rattle.std.specs.Vec.Iter.{into_iter_items, into_iter_len}
use Rattle.key_sampling.specs.Workers.{seeker_of}
use Rattle.key_sampling.proofs.worker.seekers_of.Given as goal

abbrev pub invariant-loop-worker : goal.invariant-loop-worker
invariant-loop-worker l = record {
  can_next : (goal.iterator-loop-worker).can_next l.worker-iterator;
  is_finite : (goal.iterator-loop-worker).is_finite l.worker-iterator;
  rest : l.fn.workers.items ≡ l.yielded ++ into_iter_items l.worker-iterator;
  seekers : l.seekers.items ≡ l.initial.seekers.items ++ map seeker_of l.yielded;
  room : vec_len l.seekers + into_iter_len l.worker-iterator ≤ vec_capacity l.seekers;
}
