-- What a sink gains by a put, and when it fails.
use Rattle.std.specs.Prelude.{◌≡◌, ℕ, ◌≤◌, ◌<◌, List, ◌++◌, length, take}
use Rattle.std.specs.Prelude.{Option, Some, IfSome, Result, IfOk, OnOk, OnErr}
use Rattle.rc_edge.specs.Faults.{Rose}

-- where the bytes taken are told, they have gained these
abbrev pub Gains : Option (List ℕ) → Option (List ℕ) → List ℕ → Type 0
Gains old new bytes = IfSome old (λ held. new ≡ Some (held ++ bytes))

-- where the bytes taken are told, they have gained a prefix of these
abbrev pub GainsPrefix : Option (List ℕ) → Option (List ℕ) → List ℕ → Type 0
GainsPrefix old new bytes = (k : ℕ) × (k ≤ length bytes) × Gains old new (take k bytes)

-- one put: it takes the front of the piece, some bytes if it has any, or fails and takes none
pub record Puts {E : Type 0} (old new : Option (List ℕ)) (piece : List ℕ)
    (result : Result ℕ E) : Type 0 where
  pub within : IfOk result (λ k. k ≤ length piece)
  pub progress : IfOk result (λ k. 0 < length piece → 0 < k)
  pub gained : IfOk result (λ k. Gains old new (take k piece))
  pub kept : OnErr result (new ≡ old)

-- a count of faults explains the answer: it never falls, it rose at a failure, and else it stands
pub record HasCause {T E : Type 0} (before now : ℕ) (result : Result T E) : Type 0 where
  pub later : before ≤ now
  pub failed : OnErr result (Rose before now)
  pub kept : OnOk result (now ≡ before)
