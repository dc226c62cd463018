-- What a run of many files promises that is refused.
use Rattle.std.proofs.Common.{◌≡◌, ◌⊎◌, inl, inr, ℕ, List, length, Option, None, Some, IsSome, IfSome, Result, Ok, Err, refl, sym, subst}
use Rattle.std.specs.Option.{option_map}
use Rattle.rc_edge.specs.Faults.{Rose}
use Rattle.rcpsp_words.specs.Many.{Many, many_of}
use Rattle.rcpsp_run.specs.declared.status.Status.{Status}
use Rattle.rcpsp_run.specs.declared.status.Status.TheVariants as statuses
use Rattle.rcpsp_run.specs.declared.refusal.Refusal.{Refusal}
use Rattle.rcpsp_run.specs.declared.refusal.Refusal.TheVariants.{Words, CannotRead, TooLarge, BadText, BadPlan, Cycle, BadList, Misfit, Memory}
use Rattle.rcpsp_run.specs.Causes.{FetchesAtMost, HasCause, Explains, IsOfFetch}
use Rattle.rcpsp_run.specs.Refusal.{status_of, line_of, memory_line}
use Rattle.rcpsp_run.specs.Run.{Ends, EndsStand}
use Rattle.rcpsp_run.specs.Sinks.{SinkAt, Tells}
use Rattle.rcpsp_run.proofs.RunLaws.{not_refused, IfSome-mapped, IfSome-implied}
use Rattle.batch_line.specs.Batch.{Joined, names_said, many_outcome}
use Rattle.batch_line.specs.Ending.{IsSaid, RefusesMany}
use Rattle.batch_line.specs.Run.{IsOfWords, Agrees, AgreesInFull, Promises}
use Rattle.batch_line.proofs.WrittenLaws.{IsCalm, understood_other}

-- words are refused where they say nothing, and else a file, unless memory ran out
abbrev IsOfMany : Option Many → Refusal → Type 0
IsOfMany None refusal = (refusal ≡ Words) ⊎ (refusal ≡ Memory)
IsOfMany (Some many) refusal = IsOfFetch refusal

-- equal refusals of two results
refusal_same : {T : Type 0} (one other : Refusal)
    → ◌≡◌ {A = Result T Refusal} (Err one) (Err other) → one ≡ other
refusal_same one other same = cc

of_many : (T : Type 0) (said : Option Many) (refusal : Refusal)
    → RefusesMany {T = T} said (Err refusal) → IsOfMany said refusal
of_many T None refusal (inl words) = inl (refusal_same refusal Words words)
of_many T None refusal (inr memory) = inr (refusal_same refusal Memory memory)
of_many T (Some many) refusal is = is

-- words that are not refused say something
pub refuses_some : {T : Type 0} (said : Option Many) (made : T) → RefusesMany said (Ok made)
    → IsSome said
refuses_some None made (inl words) = absurd cc
refuses_some None made (inr memory) = absurd cc
refuses_some (Some many) made is = refl

-- what holds of each refusal that can come
each_refusal : (P : Refusal → Type 0) (said : Option Many) → (said ≡ None → P Words)
    → (IsSome said → (name : List ℕ) → P (CannotRead name))
    → (IsSome said → (name : List ℕ) → P (TooLarge name))
    → P Memory → (refusal : Refusal) → IsOfMany said refusal → P refusal
each_refusal P None words read large memory refusal (inl is) = subst P (sym is) (words refl)
each_refusal P None words read large memory refusal (inr is) = subst P (sym is) memory
each_refusal P (Some many) words read large memory Words is = absurd is
each_refusal P (Some many) words read large memory (CannotRead name) is = read refl name
each_refusal P (Some many) words read large memory (TooLarge name) is = large refl name
each_refusal P (Some many) words read large memory (BadText name fault) is = absurd is
each_refusal P (Some many) words read large memory (BadPlan name fault) is = absurd is
each_refusal P (Some many) words read large memory (Cycle ring) is = absurd is
each_refusal P (Some many) words read large memory (BadList fault) is = absurd is
each_refusal P (Some many) words read large memory (Misfit misfit) is = absurd is
each_refusal P (Some many) words read large memory Memory is = memory

-- words that say nothing are not understood; memory may run out whatever they are
understood_words : (said : Option Many) → said ≡ None → IsOfWords said statuses.Words
understood_words said none =
    subst (λ (s : Option Many). IsOfWords s statuses.Words) (sym none) (inl refl)

understood_memory : (said : Option Many) → IsOfWords said statuses.Memory
understood_memory None = inr refl
understood_memory (Some many) = λ same. absurd cc

module _ (words : List (List ℕ)) (before after : Ends) (kept : after.out ≡ before.out)
    (stands : EndsStand before after)
    (most : FetchesAtMost (length (names_said (many_of words))) before.files after.files) where
  -- the files tell that the refusal is the outcome's
  abbrev IsExplained : Refusal → Type 0
  IsExplained refusal =
      IfSome before.files.told (λ pairs. Explains refusal (many_outcome words pairs))

  mapped : (refusal : Refusal) → IsExplained refusal
      → IfSome (option_map (many_outcome words) before.files.told) (Explains refusal)
  mapped refusal explains =
      IfSome-mapped before.files.told (many_outcome words) (Explains refusal) explains

  -- so what holds of it holds of the outcome
  of_outcome : (refusal : Refusal) (P : Result Joined Refusal → Type 0) → P (Err refusal)
      → IfSome before.files.told (λ pairs. many_outcome words pairs ≡ Err refusal)
      → IfSome before.files.told (λ pairs. P (many_outcome words pairs))
  of_outcome refusal P is explains =
      IfSome-implied before.files.told (λ pairs. many_outcome words pairs ≡ Err refusal)
      (λ pairs. P (many_outcome words pairs)) (λ pairs same. subst P (sym same) is) explains

  -- what a run is that is refused so
  abbrev IsPromised : Refusal → Type 0
  IsPromised refusal = HasCause (names_said (many_of words)) before.files after.files refusal
      → IsExplained refusal → Tells before.note after.note (line_of refusal)
      → Promises words before after (status_of refusal)

  by_words : many_of words ≡ None → IsPromised Words
  by_words none cause explains tells = record {
    causes = (cause.0, ap_faults);
    understood = understood_words (many_of words) none;
    fetches = cause.1;
    agrees = of_outcome Words (λ o. IsCalm words before after → Agrees o statuses.Words) (λ _. refl)
        explains;
    complete = of_outcome Words (λ o. IsCalm words before after
        → (Rose before.out.faults after.out.faults → ⊥) → AgreesInFull o statuses.Words)
        (λ _ _. refl) explains;
    output = kept;
    notes = (Words, refl, cause, tells, mapped Words explains);
    stand = stands;
  }
    where
      ap_faults : after.out.faults ≡ before.out.faults
      ap_faults = subst (λ (s : SinkAt). s.faults ≡ before.out.faults) (sym kept) refl

  by_read : IsSome (many_of words) → (name : List ℕ) → IsPromised (CannotRead name)
  by_read some name cause explains tells = record {
    causes = (CannotRead name, refl, cause);
    understood = understood_other (many_of words) statuses.ReadFault some (λ same. absurd cc);
    fetches = most;
    agrees = IfSome-implied before.files.told
        (λ pairs. Explains (CannotRead name) (many_outcome words pairs)) _ (λ pairs _ calm.
        absurd (not_refused (names_said (many_of words)) before.files after.files name calm cause))
        explains;
    complete = IfSome-implied before.files.told
        (λ pairs. Explains (CannotRead name) (many_outcome words pairs)) _ (λ pairs _ calm _.
        absurd (not_refused (names_said (many_of words)) before.files after.files name calm cause))
        explains;
    output = kept;
    notes = (CannotRead name, refl, cause, tells, mapped (CannotRead name) explains);
    stand = stands;
  }

  by_size : IsSome (many_of words) → (name : List ℕ) → IsPromised (TooLarge name)
  by_size some name cause explains tells = record {
    causes = (TooLarge name, refl, cause);
    understood = understood_other (many_of words) statuses.TooLarge some (λ same. absurd cc);
    fetches = most;
    agrees = of_outcome (TooLarge name)
        (λ o. IsCalm words before after → Agrees o statuses.TooLarge) (λ _. refl) explains;
    complete = of_outcome (TooLarge name) (λ o. IsCalm words before after
        → (Rose before.out.faults after.out.faults → ⊥) → AgreesInFull o statuses.TooLarge)
        (λ _ _. refl) explains;
    output = kept;
    notes = (TooLarge name, refl, cause, tells, mapped (TooLarge name) explains);
    stand = stands;
  }

  by_memory : (refusal : Refusal) → IsExplained refusal → Tells before.note after.note memory_line
      → Promises words before after statuses.Memory
  by_memory refusal explains tells = record {
    causes = tt;
    understood = understood_memory (many_of words);
    fetches = most;
    agrees = IfSome-implied before.files.told (λ pairs. Explains refusal (many_outcome words pairs))
        (λ pairs. IsCalm words before after → Agrees (many_outcome words pairs) statuses.Memory)
        (λ pairs _ _. tt) explains;
    complete = IfSome-implied before.files.told
        (λ pairs. Explains refusal (many_outcome words pairs))
        (λ pairs. IsCalm words before after → (Rose before.out.faults after.out.faults → ⊥)
        → AgreesInFull (many_outcome words pairs) statuses.Memory) (λ pairs _ _ _. tt) explains;
    output = kept;
    notes = tells;
    stand = stands;
  }

  -- a refusal that is said, or for which there was no memory
  pub promises_refused : (T : Type 0) (refusal : Refusal) (ended : Status)
      → HasCause (names_said (many_of words)) before.files after.files refusal
      → RefusesMany {T = T} (many_of words) (Err refusal) → IsExplained refusal
      → IsSaid refusal before.note after.note ended → Promises words before after ended
  promises_refused T refusal ended cause refuses explains (inl said) =
      subst (Promises words before after) (sym said.0)
      (each_refusal IsPromised (many_of words) by_words by_read by_size
      (λ _ explained tells. by_memory Memory explained tells) refusal
      (of_many T (many_of words) refusal refuses) cause explains said.1)
  promises_refused T refusal ended cause refuses explains (inr said) =
      subst (Promises words before after) (sym said.0) (by_memory refusal explains said.1)
