use Rattle.std.proofs.Common.{ℕ, ◌+◌, ◌<◌, length, get_or, sym, subst, arith}
use Rattle.key_sampling.specs.declared.seeker.Seeker.{Seeker}
use Rattle.key_sampling.specs.Race.{IsFresh}
use Rattle.key_sampling.proofs.RaceLaws.{each_push}
use Rattle.key_sampling.proofs.race.Race.open.Goals as goal

pub loop-number-preserved : goal.loop-number-preserved
loop-number-preserved c =
    let l = c.loop-number in
    let race = c.in_ok-race.race in
    let count = l.invariant.count in
    let items = c.in_ok-push.ensures.items in
    record {
      fresh = c.another-other.ensures.own;
      first = c.another-other.ensures.first;
      count = omega (arith, c.in_ok-push.ensures.len);
      others = subst (λ all. (k : ℕ) (d : Seeker) → k < length all
          → IsFresh race (k + 1) (get_or all k d)) (sym items)
          (each_push (λ k s. IsFresh race (k + 1) s) l.all.items c.another-other.result
          l.invariant.others
          (subst (λ (n : ℕ). IsFresh race n c.another-other.result) (sym count)
          c.another-other.ensures.other));
    }
