-- What a run that is refused keeps of its promises, by the refusal and its cause.
use Rattle.std.proofs.Common.{◌≡◌, ℕ, List, length, Option, None, Some, Result, Ok, Err, inl, inr, refl, sym, subst, ap, ◌∙◌}
use Rattle.rcpsp_words.specs.declared.words.Options.{Options}
use Rattle.rcpsp_run.specs.declared.status.Status.{Status}
use Rattle.rcpsp_run.specs.declared.status.Status.TheVariants as statuses
use Rattle.rcpsp_run.specs.declared.refusal.Refusal.{Refusal}
use Rattle.rcpsp_run.specs.declared.refusal.Refusal.TheVariants.{Words, CannotRead, TooLarge, BadText, BadPlan, Cycle, BadList, Misfit, Memory}
use Rattle.rcpsp_run.specs.Refusal.{status_of}
use Rattle.rcpsp_run.specs.Causes.{FilesAt, FetchesAtMost, HasCause, RefusesWords}
use Rattle.rcpsp_run.specs.Answer.{Answer}
use Rattle.rcpsp_run.specs.Run.{Ends, IsCaused, IsOfWords, MakesFetches, Agrees, AgreesInFull}

-- no more fetches than names were made, and none where the words are not understood
pub fetches-refused : (names : List (List ℕ)) (before after : FilesAt) (status : Status) (refusal : Refusal)
    → status ≡ status_of refusal → HasCause names before after refusal
    → FetchesAtMost (length names) before after → MakesFetches names before after status
fetches-refused names before after status refusal is cause most =
    subst (MakesFetches names before after) (sym is) (by_refusal refusal cause)
  where
    by_refusal : (refusal : Refusal) → HasCause names before after refusal
        → MakesFetches names before after (status_of refusal)
    by_refusal Words cause = cause.1
    by_refusal (CannotRead name) cause = most
    by_refusal (TooLarge name) cause = most
    by_refusal (BadText name fault) cause = most
    by_refusal (BadPlan name fault) cause = most
    by_refusal (Cycle ring) cause = most
    by_refusal (BadList fault) cause = most
    by_refusal (Misfit misfit) cause = most
    by_refusal Memory cause = most

-- the status has its cause
pub caused-refused : (names : List (List ℕ)) (asked : Option ℕ) (before after : Ends) (status : Status) (refusal : Refusal)
    → status ≡ status_of refusal → HasCause names before.files after.files refusal
    → IsCaused names asked before after status
caused-refused names asked before after status refusal is cause =
    subst (IsCaused names asked before after) (sym is) (by_refusal refusal cause)
  where
    by_refusal : (refusal : Refusal) → HasCause names before.files after.files refusal
        → IsCaused names asked before after (status_of refusal)
    by_refusal Words cause = (Words, refl, cause)
    by_refusal (CannotRead name) cause = (CannotRead name, refl, cause)
    by_refusal (TooLarge name) cause = (TooLarge name, refl, cause)
    by_refusal (BadText name fault) cause = (BadText name fault, refl, cause)
    by_refusal (BadPlan name fault) cause = (BadPlan name fault, refl, cause)
    by_refusal (Cycle ring) cause = (Cycle ring, refl, cause)
    by_refusal (BadList fault) cause = (BadList fault, refl, cause)
    by_refusal (Misfit misfit) cause = (Misfit misfit, refl, cause)
    by_refusal Memory cause = tt

-- a status that is the outcome's in full is the outcome's
pub agrees-less : (outcome : Result Answer Refusal) (status : Status) → AgreesInFull outcome status
    → Agrees outcome status
agrees-less outcome statuses.Memory agrees = tt
agrees-less (Ok answer) statuses.WriteFault agrees = tt
agrees-less (Ok answer) ended agrees = agrees
agrees-less (Err refusal) ended agrees = agrees

-- equal refusals of two results
refusal_same : {T : Type 0} (one other : Refusal) → ◌≡◌ {A = Result T Refusal} (Err one) (Err other) → one ≡ other
refusal_same one other same = cc

-- words are refused exactly where they are not understood
pub understood-refused : (T : Type 0) (options : Option Options) (status : Status) (refusal : Refusal)
    → status ≡ status_of refusal → RefusesWords {T = T} options (Err refusal) → IsOfWords options status
understood-refused T None status refusal is (inl words) = inl (is ∙ ap status_of (refusal_same refusal Words words))
understood-refused T None status refusal is (inr memory) = inr (is ∙ ap status_of (refusal_same refusal Memory memory))
understood-refused T (Some options) status refusal is other = λ words. by_refusal refusal other (sym is ∙ words)
  where
    by_refusal : (refusal : Refusal) → (◌≡◌ {A = Result T Refusal} (Err refusal) (Err Words) → ⊥)
        → status_of refusal ≡ statuses.Words → ⊥
    by_refusal Words other same = other refl
    by_refusal (CannotRead name) other same = absurd cc
    by_refusal (TooLarge name) other same = absurd cc
    by_refusal (BadText name fault) other same = absurd cc
    by_refusal (BadPlan name fault) other same = absurd cc
    by_refusal (Cycle ring) other same = absurd cc
    by_refusal (BadList fault) other same = absurd cc
    by_refusal (Misfit misfit) other same = absurd cc
    by_refusal Memory other same = absurd cc
