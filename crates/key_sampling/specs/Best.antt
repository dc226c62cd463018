-- Ranges of samples, and the best sample of a range.
use Rattle.std.specs.Prelude.{◌≡◌, ℕ, zero, suc, ◌+◌, ◌-◌, ◌^◌, ◌<◌, ◌≤◌, ◌⊎◌, ◌||◌, ◌&&◌, Bool, nat_eq, nat_lt, nat_le, if◌then◌else◌}
use Rattle.rc_instance.specs.Project.{Project}
use Rattle.key_sampling.specs.declared.best.Best.{Best}
use Rattle.key_sampling.specs.declared.best.TheConstants.{MAX_SAMPLES}
use Rattle.key_sampling.specs.Samples.{sample_makespan}

-- some samples, not too many, and each has a number below 2 to the power of 32
pub record IsRange (from count : ℕ) : Type 0 where
  pub some : 1 ≤ count
  pub few : count ≤ MAX_SAMPLES
  pub within : from + count ≤ 2 ^ 32

-- one pair of a makespan and a sample is less than another, or the same: the makespan counts first
abbrev pub IsNoWorse : Best → Best → Type 0
IsNoWorse a b =
    (a.makespan < b.makespan) ⊎ ((a.makespan ≡ b.makespan) × (a.sample ≤ b.sample))

-- a sample with its value
abbrev pub valued : Project → ℕ → ℕ → Best
valued project seed sample = record {
  makespan = sample_makespan project seed sample;
  sample = sample;
}

-- the least pair of a makespan and a sample, of the samples of a range
pub record IsBest (project : Project) (seed from count : ℕ) (best : Best) : Type 0 where
  pub within : (from ≤ best.sample) × (best.sample < from + count)
  pub value : best.makespan ≡ sample_makespan project seed best.sample
  pub least : (sample : ℕ) → from ≤ sample → sample < from + count
      → IsNoWorse best (valued project seed sample)

-- whether one is less than another, or the same
unfoldable pub is_no_worse : Best → Best → Bool
is_no_worse a b = nat_lt a.makespan b.makespan
    || (nat_eq a.makespan b.makespan && nat_le a.sample b.sample)

-- the less of two
abbrev pub better : Best → Best → Best
better a b = if is_no_worse a b then a else b

-- the best of a sample and so many after it, as it is computed
unfoldable pub best_up_to : Project → ℕ → ℕ → ℕ → Best
best_up_to project seed from zero = valued project seed from
best_up_to project seed from (suc more) =
    better (best_up_to project seed from more) (valued project seed (from + suc more))

-- the best sample of a range that is not empty
abbrev pub best_of : Project → ℕ → ℕ → ℕ → Best
best_of project seed from count = best_up_to project seed from (count - 1)
