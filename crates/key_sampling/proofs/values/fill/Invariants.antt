use Rattle.std.proofs.Common.{◌≡◌, ℕ, ◌+◌, ◌<◌, ◌≤◌, length, slice_index}
use Rattle.key_sampling.specs.declared.values.TheConstants.{NO_VALUE}
use Rattle.key_sampling.specs.Samples.{sample_makespan}
use Rattle.key_sampling.proofs.values.fill.Given as goal

abbrev pub invariant-loop-place : goal.invariant-loop-place
invariant-loop-place l = record {
  network : l.tools.net.now ≡ l.net;
  written : (k : ℕ) → k < l.place → slice_index l.values k
      ≡ sample_makespan l.net.project l.seed (l.from + k);
  left : (k : ℕ) → l.place ≤ k → k < length l.values → slice_index l.values k ≡ NO_VALUE;
}
