-- A table of the values of a range, which may not be written whole.
use Rattle.std.specs.Prelude.{◌≡◌, ℕ, ◌+◌, ◌<◌, ◌⊎◌, List, slice_index}
use Rattle.rc_instance.specs.Project.{Project}
use Rattle.key_sampling.specs.declared.values.TheConstants.{NO_VALUE}
use Rattle.key_sampling.specs.Samples.{sample_makespan}

-- each of so many places has the value of its sample, or none
abbrev pub ShowsValues : Project → ℕ → ℕ → ℕ → List ℕ → Type 0
ShowsValues project seed from count values = (k : ℕ) → k < count
    → (slice_index values k ≡ NO_VALUE)
    ⊎ (slice_index values k ≡ sample_makespan project seed (from + k))
