-- Why a run is refused: what the counts of the files show, and what the files hold.
use Rattle.std.specs.Prelude.{◌≡◌, ◌≢◌, ◌⊎◌, ◌≤◌, ℕ, List, length, take, slice_get, All}
use Rattle.std.specs.Prelude.{Option, None, Some, IfSome, Result, Ok, Err, OnOk, IfErr, IsErrOf}
use Rattle.rc_instance.specs.declared.limits.TheConstants.{MAX_FILE_BYTES}
use Rattle.rc_edge.specs.Faults.{Rose, counted_on}
use Rattle.rc_edge.specs.Files.{SameCounts}
use Rattle.rc_edge.specs.Fetches.{IsWithin, IsBeyond}
use Rattle.rc_edge.specs.declared.files.FetchFault.{FetchFault}
use Rattle.rc_edge.specs.declared.files.FetchFault.TheVariants as fault
use Rattle.rcpsp_words.specs.declared.words.Options.{Options}
use Rattle.rcpsp_run.specs.declared.refusal.Refusal.{Refusal}
use Rattle.rcpsp_run.specs.declared.refusal.Refusal.TheVariants.{Words, CannotRead, TooLarge, Memory}

-- the files at one moment: the map that they tell, the fetches that fail on purpose, the counts by name, and how
-- many fetches were made
pub record FilesAt : Type 0 where
  pub told : Option (List (List ℕ × List ℕ))
  pub failing : Option (List ℕ)
  pub faults : List ℕ → ℕ
  pub long : List ℕ → ℕ
  pub fetches : ℕ

-- every count by name is what it was
abbrev pub FilesStand : FilesAt → FilesAt → Type 0
FilesStand before after = SameCounts before.faults after.faults × SameCounts before.long after.long

-- no more fetches were made than so many
unfoldable pub FetchesAtMost : ℕ → FilesAt → FilesAt → Type 0
FetchesAtMost most before after = (made : ℕ) × (made ≤ most) × (after.fetches ≡ counted_on before.fetches made)

-- a name at some place of those that are fetched: its count rose, and where the files tell their map,
-- each name before it has a file within the limit
pub record IsRefusedAt (told : Option (List (List ℕ × List ℕ))) (names : List (List ℕ)) (rose : Type 0) (name : List ℕ) : Type 0 where
  pub place : ℕ
  pub named : slice_get names place ≡ Some name
  pub shown : rose
  pub before : IfSome told (λ pairs. All (IsWithin pairs MAX_FILE_BYTES) (take place names))

-- a name that is refused since its file is too large: where the files tell their map, the file is
pub record IsTooLargeAt (names : List (List ℕ)) (before after : FilesAt) (name : List ℕ) : Type 0 where
  pub refused : IsRefusedAt before.told names (Rose (before.long name) (after.long name)) name
  pub beyond : IfSome before.told (λ pairs. IsBeyond pairs MAX_FILE_BYTES name)

-- a refusal has its cause: words that are not understood, before any fetch; a file that cannot be read or is too
-- large by the count of its name; and all others where every count stands. Want of memory may come at any place
abbrev pub HasCause : List (List ℕ) → FilesAt → FilesAt → Refusal → Type 0
HasCause names before after Words = FilesStand before after × (after.fetches ≡ before.fetches)
HasCause names before after (CannotRead name) =
    IsRefusedAt before.told names (Rose (before.faults name) (after.faults name)) name
HasCause names before after (TooLarge name) = IsTooLargeAt names before after name
HasCause names before after Memory = Unit {0}
HasCause names before after refusal = FilesStand before after

-- the refusal of a file by its fault
abbrev pub refusal_for : List ℕ → FetchFault → Refusal
refusal_for name fault.Failed = CannotRead name
refusal_for name fault.TooLarge = TooLarge name
refusal_for name fault.Memory = Memory

-- what a file of this name is refused with, unless there was no memory to say it
abbrev pub IsRefusalOf : List ℕ → FetchFault → Refusal → Type 0
IsRefusalOf name fault refusal = (refusal ≡ refusal_for name fault) ⊎ (refusal ≡ Memory)

-- a refusal is the definition's; want of memory and a file that cannot be read are free
abbrev pub Explains : {Y : Type 0} → Refusal → Result Y Refusal → Type 0
Explains Memory outcome = Unit {0}
Explains (CannotRead _) outcome = Unit {0}
Explains refusal outcome = outcome ≡ Err refusal

-- what a step gave is what the definition says
abbrev pub Gives : {X Y : Type 0} → (X → Y) → Result X Refusal → Result Y Refusal → Type 0
Gives view (Ok x) outcome = outcome ≡ Ok (view x)
Gives view (Err refusal) outcome = Explains refusal outcome

-- what comes of the files of these names: what the definition says of the map that they tell, by one fetch for
-- each name, where every count stands; or a refusal that has its cause, by no more fetches
pub record Comes {X Y : Type 0} (view : X → Y) (names : List (List ℕ))
    (outcome : List (List ℕ × List ℕ) → Result Y Refusal) (before after : FilesAt)
    (result : Result X Refusal) : Type 0 where
  pub told : after.told ≡ before.told
  pub failing : after.failing ≡ before.failing
  pub stand : OnOk result (FilesStand before after)
  pub cause : IfErr result (HasCause names before after)
  pub most : FetchesAtMost (length names) before after
  pub all : OnOk result (after.fetches ≡ counted_on before.fetches (length names))
  pub gives : IfSome before.told (λ pairs. Gives view result (outcome pairs))

-- a refusal that comes once all files were fetched
abbrev pub IsOfTexts : Refusal → Type 0
IsOfTexts Words = ⊥
IsOfTexts (CannotRead _) = ⊥
IsOfTexts (TooLarge _) = ⊥
IsOfTexts _ = Unit {0}

-- a refusal that comes of the files, before any text is read
abbrev pub IsOfFetch : Refusal → Type 0
IsOfFetch (CannotRead _) = Unit {0}
IsOfFetch (TooLarge _) = Unit {0}
IsOfFetch Memory = Unit {0}
IsOfFetch _ = ⊥

-- where the words have no options they are refused, or there was no memory to read them, and they are
-- refused nowhere else
abbrev pub RefusesWords : {T : Type 0} → Option Options → Result T Refusal → Type 0
RefusesWords None result = IsErrOf result Words ⊎ IsErrOf result Memory
RefusesWords (Some options) result = result ≢ Err Words
