-- What one fetch from named files answers, takes and counts.
use Rattle.std.specs.Prelude.{◌≡◌, ℕ, ◌+◌, ◌≤◌, ◌<◌, ◌⊎◌, List, [], ◌∷◌, length, take, map}
use Rattle.std.specs.Prelude.{if◌then◌else◌, Option, Some, None, IfSome, IsSomeAnd, String, Vec}
use Rattle.std.specs.Prelude.{Result, IsOk, OnOk, IsErrOf, string_bytes}
use Rattle.std.specs.Str.{bytes_eq}
use Rattle.std.specs.declared.alloc.Global.{Global}
use Rattle.rc_edge.specs.Faults.{Rose}
use Rattle.rc_edge.specs.declared.files.FetchFault.{FetchFault}
use Rattle.rc_edge.specs.declared.files.FetchFault.TheVariants.{Failed, TooLarge, Memory}

-- names and contents as lists of bytes, in the same order
abbrev pub pairs_of : List (String Global × Vec ℕ Global) → List (List ℕ × List ℕ)
pairs_of files = map (λ file. (string_bytes file.0, file.1.items)) files

-- the bytes that a list of names and bytes gives a name: those of its first pair with that name
abbrev pub file_of : List (List ℕ × List ℕ) → List ℕ → Option (List ℕ)
file_of [] name = None
file_of (pair ∷ pairs) name = if bytes_eq pair.0 name then Some pair.1 else file_of pairs name

-- every name has the count that it had
abbrev pub SameCounts : (List ℕ → ℕ) → (List ℕ → ℕ) → Type 0
SameCounts old new = (name : List ℕ) → new name ≡ old name

-- no name has a lower count than it had
abbrev pub NoneFalls : (List ℕ → ℕ) → (List ℕ → ℕ) → Type 0
NoneFalls old new = (name : List ℕ) → old name ≤ new name

-- the counts of faults and of long files by name: each fault has its cause, and else they stand
pub record Counts {T : Type 0} (name : List ℕ) (faults faults' long long' : List ℕ → ℕ)
    (result : Result T FetchFault) : Type 0 where
  pub faults_stay : NoneFalls faults faults'
  pub long_stay : NoneFalls long long'
  pub failed : IsErrOf result Failed → Rose (faults name) (faults' name)
  pub too_large : IsErrOf result TooLarge → Rose (long name) (long' name)
  pub ok : OnOk result (SameCounts faults faults' × SameCounts long long')
  pub memory : IsErrOf result Memory → SameCounts faults faults' × SameCounts long long'

-- how many bytes were taken: at most the limit, or just one more of a file that is too large
pub record Takes {T : Type 0} (limit : ℕ) (into : List ℕ)
    (result : Result T FetchFault) : Type 0 where
  pub most : length into ≤ limit + 1
  pub ok : OnOk result (length into ≤ limit)
  pub too_large : IsErrOf result TooLarge → length into ≡ limit + 1

-- the answer where the files tell what a name holds: its bytes, or why not; `rose` says that the
-- count of faults of the name rose, as it may for any cause
pub record Fetches {T : Type 0} (file : Option (List ℕ)) (limit : ℕ) (rose : Type 0)
    (into : List ℕ) (result : Result T FetchFault) : Type 0 where
  pub ok : OnOk result (file ≡ Some into)
  pub too_large : IsErrOf result TooLarge →
      IsSomeAnd file (λ bytes. (limit < length bytes) × (into ≡ take (limit + 1) bytes))
  pub within : IfSome file (λ bytes. length bytes ≤ limit →
      rose ⊎ (IsOk result ⊎ IsErrOf result Memory))
  pub beyond : IfSome file (λ bytes. limit < length bytes →
      rose ⊎ (IsErrOf result TooLarge ⊎ IsErrOf result Memory))
