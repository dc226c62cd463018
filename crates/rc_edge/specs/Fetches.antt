-- Several names fetched one after the other, up to the first that is refused.
use Rattle.std.specs.Prelude.{◌≡◌, ℕ, ◌≤◌, ◌<◌, List, length, All}
use Rattle.std.specs.Prelude.{Some, IsSomeAnd, Vec, ◌+◌, Result, OnOk, IfErr}
use Rattle.std.specs.List.{AllZip}
use Rattle.std.specs.Borrow.{Bor}
use Rattle.std.specs.declared.alloc.Global.{Global}
use Rattle.rc_edge.specs.Faults.{Rose, counted_on}
use Rattle.rc_edge.specs.Files.{file_of, SameCounts}
use Rattle.rc_edge.specs.declared.files.FetchFault.{FetchFault}
use Rattle.rc_edge.specs.declared.files.FetchFault.TheVariants.{Failed, TooLarge, Memory}

-- the name has a file, of at most so many bytes
abbrev pub IsWithin : List (List ℕ × List ℕ) → ℕ → List ℕ → Type 0
IsWithin pairs limit name = IsSomeAnd (file_of pairs name) (λ bytes. length bytes ≤ limit)

-- the name has a file, of more bytes
abbrev pub IsBeyond : List (List ℕ × List ℕ) → ℕ → List ℕ → Type 0
IsBeyond pairs limit name = IsSomeAnd (file_of pairs name) (λ bytes. limit < length bytes)

-- the texts are the files of the names, in order
abbrev pub AreFiles : List (List ℕ × List ℕ) → List (Bor (List ℕ)) → List (Vec ℕ Global) → Type 0
AreFiles pairs names texts =
    AllZip (λ name text. file_of pairs name.now ≡ Some text.items) names texts

-- the first names have files within the limit
abbrev pub AreWithin : List (List ℕ × List ℕ) → ℕ → List (Bor (List ℕ)) → Type 0
AreWithin pairs limit names = All (λ name. IsWithin pairs limit name.now) names

-- what the counts of a name show of a fault: which of them rose, or that all of all names stand
abbrev pub HasReason : FetchFault → (faults faults' long long' : List ℕ → ℕ) → List ℕ → Type 0
HasReason Failed faults faults' long long' name = Rose (faults name) (faults' name)
HasReason TooLarge faults faults' long long' name = Rose (long name) (long' name)
HasReason Memory faults faults' long long' name = SameCounts faults faults' × SameCounts long long'

-- the count of fetches after so many names: one for each at Ok, and at a refusal one for each name up to
-- the refused one, whose place is counted from 0
pub record MakesFetches {T : Type 0} (names before now : ℕ)
    (result : Result T (ℕ × FetchFault)) : Type 0 where
  pub most : now ≤ counted_on before names
  pub all : OnOk result (now ≡ counted_on before names)
  pub up_to : IfErr result (λ refused. now ≡ counted_on before (refused.0 + 1))
