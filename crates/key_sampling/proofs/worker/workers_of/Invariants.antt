use Rattle.std.proofs.Common.{◌≡◌, ◌++◌, map}
use Rattle.std.specs.Vec.Iter.{into_iter_items}
use Rattle.key_sampling.specs.Workers.{seeker_of, HaveTools}
use Rattle.key_sampling.proofs.worker.workers_of.Given as goal

abbrev pub invariant-loop-seeker : goal.invariant-loop-seeker
invariant-loop-seeker l = record {
  can_next : (goal.iterator-loop-seeker).can_next l.seeker-iterator;
  is_finite : (goal.iterator-loop-seeker).is_finite l.seeker-iterator;
  rest : l.fn.seekers.items ≡ l.yielded ++ into_iter_items l.seeker-iterator;
  seekers : map seeker_of l.workers.items ≡ l.yielded;
  tools : HaveTools l.net l.workers.items;
}
