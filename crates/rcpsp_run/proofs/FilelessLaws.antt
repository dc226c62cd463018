-- What comes of a command that has no files.
use Rattle.std.proofs.Common.{◌≡◌, ℕ, List, [], Option, None, Some, IfSome, IfErr, Result, Ok, Err, refl, subst, sym}
use Rattle.rcpsp_run.specs.declared.refusal.Refusal.{Refusal}
use Rattle.rcpsp_run.specs.declared.refusal.Refusal.TheVariants.{Words, CannotRead, TooLarge, BadText, BadPlan, Cycle, BadList, Misfit, Memory}
use Rattle.rc_instance.specs.Results.{◌>>=◌}
use Rattle.rcpsp_run.specs.Outcome.{contents}
use Rattle.rcpsp_run.specs.Causes.{FilesAt, HasCause, IsOfTexts, Gives, Comes}
use Rattle.rcpsp_run.proofs.FetchCounts.{fetches-none}

-- without files the texts are none
pub contents-none : {Y : Type 0} (pairs : List (List ℕ × List ℕ)) (then : List (List ℕ) → Result Y Refusal)
    → contents pairs [] >>= then ≡ then []
unfolding contents
contents-none pairs then = refl

-- what is so of everything is so of what is told
always : {X : Type 0} (told : Option X) (P : X → Type 0) → ((x : X) → P x) → IfSome told P
always None P is = tt
always (Some x) P is = is x

-- where no file is touched, a refusal that is not of files has its cause
cause-still : (now : FilesAt) (refusal : Refusal) → IsOfTexts refusal → HasCause [] now now refusal
cause-still now Words of = absurd of
cause-still now (CannotRead name) of = absurd of
cause-still now (TooLarge name) of = absurd of
cause-still now (BadText name fault) of = (λ name. refl, λ name. refl)
cause-still now (BadPlan name fault) of = (λ name. refl, λ name. refl)
cause-still now (Cycle ring) of = (λ name. refl, λ name. refl)
cause-still now (BadList fault) of = (λ name. refl, λ name. refl)
cause-still now (Misfit misfit) of = (λ name. refl, λ name. refl)
cause-still now Memory of = tt

-- what is made of no texts is what comes, and no file is touched
pub comes-fileless : {X Y : Type 0} (view : X → Y) (then : List (List ℕ) → Result Y Refusal)
    (now : FilesAt) (result : Result X Refusal)
    → Gives view result (then []) → IfErr result IsOfTexts
    → Comes view [] (λ pairs. contents pairs [] >>= then) now now result
comes-fileless view then now (Ok x) gives of = record {
  told = refl;
  failing = refl;
  stand = (λ name. refl, λ name. refl);
  cause = tt;
  most = fetches-none _ _ _ refl;
  all = refl;
  gives = always now.told _ (λ pairs. subst (Gives view (Ok x)) (sym (contents-none pairs then)) gives);
}
comes-fileless view then now (Err refusal) gives of = record {
  told = refl;
  failing = refl;
  stand = tt;
  cause = cause-still now refusal of;
  most = fetches-none _ _ _ refl;
  all = tt;
  gives = always now.told _ (λ pairs. subst (Gives view (Err refusal)) (sym (contents-none pairs then)) gives);
}
