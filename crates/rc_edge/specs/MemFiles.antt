-- The files of a `MemFiles`, and what its next fetch does.
use Rattle.std.specs.Prelude.{◌≡◌, ◌≢◌, ℕ, ◌+◌, ◌-◌, ◌^◌, ◌⊎◌, ◌==◌, ◌||◌, Bool, List, length, min}
use Rattle.std.specs.Prelude.{if◌then◌else◌, nat_le, Option, Some, None, is_some}
use Rattle.std.specs.Prelude.{Result, Err, IsOk, IsErrOf}
use Rattle.std.specs.List.{list_any}
use Rattle.rc_edge.specs.Faults.{one_more}
use Rattle.rc_edge.specs.Files.{file_of, pairs_of}
use Rattle.rc_edge.specs.declared.files.FetchFault.{FetchFault}
use Rattle.rc_edge.specs.declared.files.FetchFault.TheVariants.{Failed, TooLarge, Memory}
use Rattle.rc_edge.specs.declared.mem_files.MemFiles.{MemFiles}

-- the names and bytes that it was made of
abbrev pub contents_of : MemFiles → List (List ℕ × List ℕ)
contents_of f = pairs_of f.files.items

-- the numbers of the fetches that fail
abbrev pub failing_of : MemFiles → List ℕ
failing_of f = f.failing.items

-- the number of the next fetch
abbrev pub calls_of : MemFiles → ℕ
calls_of f = f.calls

-- how many fetches so far failed by their number
abbrev pub refused_of : MemFiles → ℕ
refused_of f = f.refused

-- how many fetches so far failed since the name is absent
abbrev pub absent_of : MemFiles → ℕ
absent_of f = f.absent

-- how many fetches so far answered `TooLarge`
abbrev pub long_of : MemFiles → ℕ
long_of f = f.long

-- the faults that concern a name: the fetches that failed by their number, and at a name that is
-- absent those of absent names too
abbrev pub faults_of : MemFiles → List ℕ → ℕ
faults_of f name =
    if is_some (file_of (contents_of f) name) then refused_of f
    else min (refused_of f + absent_of f) (2 ^ 64 - 1)

-- nothing was fetched yet
pub record IsUntouched (f : MemFiles) : Type 0 where
  pub calls : calls_of f ≡ 0
  pub refused : refused_of f ≡ 0
  pub absent : absent_of f ≡ 0
  pub long : long_of f ≡ 0

-- the next fetch is one of those that fail
abbrev pub fails_next : MemFiles → Bool
fails_next f = list_any (λ number. number == calls_of f) (failing_of f)

-- why a file is not given under a limit, if so: it is absent, or has more bytes
abbrev pub fault_at : ℕ → Option (List ℕ) → Option FetchFault
fault_at limit None = Some Failed
fault_at limit (Some bytes) = if nat_le (length bytes) limit then None else Some TooLarge

-- why the next fetch gives no file, if so: by its number, or else by the name and the limit
abbrev pub fault_next : MemFiles → List ℕ → ℕ → Option FetchFault
fault_next f name limit =
    if fails_next f then Some Failed else fault_at limit (file_of (contents_of f) name)

-- the answer is the fault that is due, if one is; memory can be wanting where bytes are copied
abbrev pub Answers : {T : Type 0} → Option FetchFault → Result T FetchFault → Type 0
Answers None result = IsOk result ⊎ IsErrOf result Memory
Answers (Some Failed) result = IsErrOf result Failed
Answers (Some TooLarge) result = IsErrOf result TooLarge ⊎ IsErrOf result Memory
Answers (Some Memory) result = IsErrOf result Memory

-- what a fetch of a name counts
pub record Advances {T : Type 0} (old new : MemFiles) (name : List ℕ)
    (result : Result T FetchFault) : Type 0 where
  pub calls : calls_of new ≡ one_more (calls_of old)
  pub refused : refused_of new ≡
      (if fails_next old then one_more (refused_of old) else refused_of old)
  pub absent : absent_of new ≡
      (if fails_next old || is_some (file_of (contents_of old) name) then absent_of old
      else one_more (absent_of old))
  pub long : IsErrOf result TooLarge → long_of new ≡ one_more (long_of old)
  pub not_long : result ≢ Err TooLarge → long_of new ≡ long_of old
