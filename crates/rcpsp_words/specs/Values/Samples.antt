-- A range of samples: from a number on, so many.
use Rattle.std.specs.Prelude.{ℕ, ◌+◌, ◌^◌, ◌&&◌, Option, None, Some, nat_le, unwrap_or, if◌then◌else◌}

-- the samples from a number on, so many
pub record SampleRange : Type 0 where
  pub from : ℕ
  pub count : ℕ

-- from 1 to 1,000,000 samples, of which each has a number below 2 to the power of 32
abbrev pub samples_in : ℕ → ℕ → Option SampleRange
samples_in from count =
    if nat_le from 4294967295 && nat_le 1 count && nat_le count 1000000
    && nat_le (from + count) (2 ^ 32)
    then Some (record { from = from; count = count }) else None

-- the samples from a number on, or else from 0, so many, or else 100
abbrev pub samples_of : Option ℕ → Option ℕ → Option SampleRange
samples_of from count = samples_in (unwrap_or from 0) (unwrap_or count 100)
