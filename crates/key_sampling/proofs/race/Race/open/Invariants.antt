use Rattle.std.proofs.Common.{◌≡◌, ℕ, ◌+◌, ◌<◌, length, get_or}
use Rattle.key_sampling.specs.declared.seeker.Seeker.{Seeker}
use Rattle.key_sampling.specs.Race.{IsFirst, IsFresh}
use Rattle.key_sampling.proofs.race.Race.open.Given as goal

abbrev pub invariant-loop-number : goal.invariant-loop-number
invariant-loop-number l = record {
  fresh : IsFresh l.race 0 l.first;
  first : IsFirst l.number 0 l.first;
  count : length l.all.items + 1 ≡ l.number;
  others : (k : ℕ) (d : Seeker) → k < length l.all.items
      → IsFresh l.race (k + 1) (get_or l.all.items k d);
}
