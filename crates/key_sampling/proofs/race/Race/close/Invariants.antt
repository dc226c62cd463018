use Rattle.std.proofs.Common.{◌≡◌, ◌++◌, true, length, drop}
use Rattle.std.specs.Vec.Iter.{into_iter_items}
use Rattle.key_sampling.specs.Race.{view_of, IsSeekerOf, IsFirst}
use Rattle.key_sampling.proofs.race.Race.close.Given as goal

abbrev pub invariant-loop-other : goal.invariant-loop-other
invariant-loop-other l = record {
  can_next : (goal.iterator-loop-other).can_next l.other-iterator;
  is_finite : (goal.iterator-loop-other).is_finite l.other-iterator;
  own : IsSeekerOf l.self l.first;
  first : IsFirst (length l.fn.seekers.items) (length l.yielded) l.first;
  ended : (view_of l.first).ended ≡ true;
  rest : drop 1 l.fn.seekers.items ≡ l.yielded ++ into_iter_items l.other-iterator;
}
