-- A refusal with its cause meets what a run promises of its status.
use Rattle.std.proofs.Common.{◌≡◌, ℕ, List, Option, Some, None, IfSome, Result, refl, sym, subst}
use Rattle.std.specs.Option.{option_map}
use Rattle.std.proofs.lemmas.Option.{slice_get_within, get_or_from_slice_get}
use Rattle.rc_edge.specs.Faults.{Rose}
use Rattle.rcpsp_run.specs.declared.status.Status.{Status}
use Rattle.rcpsp_run.specs.declared.refusal.Refusal.{Refusal}
use Rattle.rcpsp_run.specs.declared.refusal.Refusal.TheVariants.{Words, CannotRead, TooLarge, BadText, BadPlan, Cycle, BadList, Misfit, Memory}
use Rattle.rcpsp_run.specs.Answer.{Answer}
use Rattle.rcpsp_run.specs.Refusal.{status_of}
use Rattle.rcpsp_run.specs.Causes.{FilesAt, HasCause, Explains, IsRefusedAt}
use Rattle.rcpsp_run.specs.Run.{AreCalm, AgreesInFull}

-- no name can be refused whose count did not rise
pub not_refused : (names : List (List ℕ)) (before after : FilesAt) (name : List ℕ)
    → AreCalm names before after
    → IsRefusedAt before.told names (Rose (before.faults name) (after.faults name)) name → ⊥
not_refused names before after name calm refused =
    let within = slice_get_within names refused.place name refused.named in
    let same = get_or_from_slice_get names refused.place name name refused.named in
    let P : List ℕ → Type 0 = λ n. Rose (before.faults n) (after.faults n) → ⊥ in
    subst P same (calm refused.place name within) refused.shown

-- the status is that of the outcome
pub agrees-refused : (names : List (List ℕ)) (before after : FilesAt)
    (outcome : Result Answer Refusal) (status : Status) (refusal : Refusal)
    → status ≡ status_of refusal → HasCause names before after refusal → AreCalm names before after
    → Explains refusal outcome → AgreesInFull outcome status
agrees-refused names before after outcome status refusal is cause calm explains =
    subst (AgreesInFull outcome) (sym is) (by_refusal refusal cause explains)
  where
    by_refusal : (refusal : Refusal) → HasCause names before after refusal → Explains refusal outcome
        → AgreesInFull outcome (status_of refusal)
    by_refusal Words cause explains = rw explains refl
    by_refusal (CannotRead name) cause explains = absurd (not_refused names before after name calm cause)
    by_refusal (TooLarge name) cause explains = rw explains refl
    by_refusal (BadText name fault) cause explains = rw explains refl
    by_refusal (BadPlan name fault) cause explains = rw explains refl
    by_refusal (Cycle ring) cause explains = rw explains refl
    by_refusal (BadList fault) cause explains = rw explains refl
    by_refusal (Misfit misfit) cause explains = rw explains refl
    by_refusal Memory cause explains = tt

-- what holds of the value that a function gives of each told map holds of the mapped option
pub IfSome-mapped : {X Y : Type 0} (told : Option X) (f : X → Y) (P : Y → Type 0) → IfSome told (λ x. P (f x)) → IfSome (option_map f told) P
IfSome-mapped None f P h = h
IfSome-mapped (Some x) f P h = h

-- the same of an implication under it
pub IfSome-implied : {X : Type 0} (told : Option X) (P Q : X → Type 0) → ((x : X) → P x → Q x) → IfSome told P → IfSome told Q
IfSome-implied None P Q implies h = h
IfSome-implied (Some x) P Q implies h = implies x h

-- two facts of what is told, as one
pub IfSome-both : {X : Type 0} (told : Option X) (P Q : X → Type 0) → IfSome told P → IfSome told Q → IfSome told (λ x. P x × Q x)
IfSome-both None P Q p q = tt
IfSome-both (Some x) P Q p q = (p, q)
