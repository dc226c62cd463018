-- What a run promises, by how its answer is written or its refusal said.
use Rattle.std.proofs.Common.{◌≡◌, ◌⊎◌, inl, inr, ℕ, Bool, true, false, List, length, arith, Option, None, Some, IfSome, IsSomeAnd, IsOkAnd, Result, Ok, refl, sym, subst, ap, ◌∙◌, if◌then◌else◌}
use Rattle.std.specs.Option.{option_map}
use Rattle.std.proofs.Math.Seq.{take-length}
use Rattle.rc_edge.specs.Faults.{Rose, counted_on}
use Rattle.rc_edge.specs.Sink.{Gains, GainsPrefix}
use Rattle.rcpsp_words.specs.declared.words.Options.{Options}
use Rattle.rcpsp_words.specs.Words.{options_of}
use Rattle.rcpsp_run.specs.declared.answer.LiveLines.{LiveLines}
use Rattle.rcpsp_run.specs.declared.status.Status.{Status}
use Rattle.rcpsp_run.specs.declared.status.Status.TheVariants as statuses
use Rattle.rcpsp_run.specs.declared.refusal.Refusal.{Refusal}
use Rattle.rcpsp_run.specs.Answer.{Answer, ending}
use Rattle.rcpsp_run.specs.Causes.{FilesStand}
use Rattle.rcpsp_run.specs.Commands.{IsPrintedBy}
use Rattle.rcpsp_run.specs.Ending.{IsWritten, TakesWhole}
use Rattle.rcpsp_run.specs.Live.{asked_by, TakesLive, TakesAfter}
use Rattle.rcpsp_run.specs.Outcome.{names_of, outcome}
use Rattle.rcpsp_run.specs.Refusal.{write_line}
use Rattle.rcpsp_run.specs.Run.{Ends, EndsStand, Promises, AreCalm, Agrees, AgreesInFull, GainsPart, LiveRose, IsOfWords, Prints, Unwritten}
use Rattle.rcpsp_run.specs.Sinks.{SinkAt}
use Rattle.rcpsp_run.proofs.LiveLaws.{live-stands, live-rose, asked-some, takes-after, options-asked, violated-quiet}
use Rattle.rcpsp_run.proofs.RunLaws.{IfSome-mapped, IfSome-implied}

-- what is gained whole is a prefix that is gained
whole-part : (old new : Option (List ℕ)) (text : List ℕ) → Gains old new text
    → GainsPrefix old new text
whole-part old new text gained =
    (length text, omega arith, subst (Gains old new) (sym (take-length text)) gained)

-- how a run ends whose answer is written
ended : (made : Answer) → (ending made ≡ statuses.Done) ⊎ (ending made ≡ statuses.Violated)
ended made =
    elim made.violated as (λ v. ((if v then statuses.Violated else statuses.Done) ≡ statuses.Done)
    ⊎ ((if v then statuses.Violated else statuses.Done) ≡ statuses.Violated)) [
      | true ↦ inr refl
      | false ↦ inl refl
    ]

-- what the output gains is what the command prints
prints-of : (options : Option Options) (made : Answer) (before after : SinkAt) (status : Status)
    → IsSomeAnd options (λ o. IsPrintedBy o.command made) → status ≡ ending made
    → Gains before.held after.held made.text → Prints options before after status
prints-of None made before after status printed is gained = absurd printed
prints-of (Some options) made before after status printed is gained =
    (made, printed, is, gained)

-- words that are understood end with another status than `Words`
understood-other : (options : Option Options) (made : Answer) (status : Status)
    → IsSomeAnd options (λ o. IsPrintedBy o.command made) → (status ≡ statuses.Words → ⊥)
    → IsOfWords options status
understood-other None made status printed other = absurd printed
understood-other (Some options) made status printed other = other

-- what is so is so at each status at which nothing is put on the output
pub unwritten-any : (so : Type 0) (status : Status) → so → Unwritten so status
unwritten-any so statuses.Done is = tt
unwritten-any so statuses.BadText is = is
unwritten-any so statuses.Cycle is = is
unwritten-any so statuses.BadList is = is
unwritten-any so statuses.Words is = is
unwritten-any so statuses.Misfit is = is
unwritten-any so statuses.Violated is = tt
unwritten-any so statuses.ReadFault is = is
unwritten-any so statuses.WriteFault is = tt
unwritten-any so statuses.Memory is = is
unwritten-any so statuses.TooLarge is = is

-- an answer that was written has put something there
pub unwritten-written : (so : Type 0) (made : Answer) (failed : Bool) (out out' noted noted' : SinkAt)
    (status : Status) → IsWritten made failed out out' noted noted' status → Unwritten so status
unwritten-written so made true out out' noted noted' status (inl own) =
    subst (Unwritten so) (sym own.0) tt
unwritten-written so made false out out' noted noted' status (inl own) =
    elim (ended made) [
      | inl is ↦ subst (Unwritten so) (sym (own.0 ∙ is)) tt
      | inr is ↦ subst (Unwritten so) (sym (own.0 ∙ is)) tt
    ]
unwritten-written so made failed out out' noted noted' status (inr own) =
    subst (Unwritten so) (sym own.0) tt

-- where a violation is told, the answer says so
told_violated : (made : Answer) → ending made ≡ statuses.Violated → made.violated ≡ true
told_violated made is =
    elim made.violated as (λ v. (if v then statuses.Violated else statuses.Done) ≡ statuses.Violated
    → v ≡ true) [
      | true ↦ λ _. refl
      | false ↦ λ same. absurd cc
    ] is

-- no count of faults of a name that the words give rose
abbrev IsCalm : List (List ℕ) → Ends → Ends → Type 0
IsCalm words before after = AreCalm (names_of (options_of words)) before.files after.files

module _ (words : List (List ℕ)) (before after : Ends) (made : Answer)
    (files : FilesStand before.files after.files)
    (fetched : after.files.fetches
    ≡ counted_on before.files.fetches (length (names_of (options_of words))))
    (gives : IfSome before.files.told (λ pairs. outcome words pairs ≡ Ok made))
    (printed : IsSomeAnd (options_of words) (λ options. IsPrintedBy options.command made))
    (stands : EndsStand before after) where
  -- what the answer has, the outcome has where the files tell their map
  of_outcome : (P : Result Answer Refusal → Type 0) → P (Ok made)
      → IfSome before.files.told (λ pairs. P (outcome words pairs))
  of_outcome P is =
      IfSome-implied before.files.told (λ pairs. outcome words pairs ≡ Ok made)
      (λ pairs. P (outcome words pairs)) (λ pairs same. subst P (sym same) is) gives

  of_mapped : (P : Result Answer Refusal → Type 0) → P (Ok made)
      → IfSome (option_map (outcome words) before.files.told) P
  of_mapped P is = IfSome-mapped before.files.told (outcome words) P (of_outcome P is)

  -- the answer's own status, of a text that tells no violation
  done : ending made ≡ statuses.Done → TakesWhole before.out after.out made.text
      → TakesLive made.live before.note after.note false
      → Promises words before after statuses.Done
  done is whole live = record {
    causes = (files, whole.stands, live-stands made.live before.note after.note live);
    understood = understood-other (options_of words) made statuses.Done printed (λ same. absurd cc);
    fetches = fetched;
    agrees = of_outcome (λ given. IsCalm words before after → Agrees given statuses.Done) (λ _. sym is);
    complete = of_outcome (λ given. IsCalm words before after
        → (Rose before.out.faults after.out.faults → ⊥)
        → (LiveRose (asked_by (options_of words)) before.note after.note → ⊥)
        → AgreesInFull given statuses.Done) (λ _ _ _. sym is);
    output = of_mapped (λ given. IsOkAnd given
        (λ answer. Gains before.out.held after.out.held answer.text)) whole.gained;
    prints = prints-of (options_of words) made before.out after.out statuses.Done printed (sym is)
        whole.gained;
    notes = (
      made.live,
      options-asked (options_of words) made printed,
      of_mapped (λ given. IsOkAnd given (λ answer. answer.live ≡ made.live)) refl,
      live,
    );
    stand = stands;
  }

  -- the same, of one that tells a violation, which has no lines
  violated : ending made ≡ statuses.Violated → TakesWhole before.out after.out made.text
      → TakesLive made.live before.note after.note false
      → Promises words before after statuses.Violated
  violated is whole live = record {
    causes = (files, whole.stands, live-stands made.live before.note after.note live);
    understood = understood-other (options_of words) made statuses.Violated printed
        (λ same. absurd cc);
    fetches = fetched;
    agrees = of_outcome (λ given. IsCalm words before after → Agrees given statuses.Violated) (λ _. sym is);
    complete = of_outcome (λ given. IsCalm words before after
        → (Rose before.out.faults after.out.faults → ⊥)
        → (LiveRose (asked_by (options_of words)) before.note after.note → ⊥)
        → AgreesInFull given statuses.Violated) (λ _ _ _. sym is);
    output = of_mapped (λ given. IsOkAnd given
        (λ answer. Gains before.out.held after.out.held answer.text)) whole.gained;
    prints = prints-of (options_of words) made before.out after.out statuses.Violated printed (sym is)
        whole.gained;
    notes =
        let quiet : made.live ≡ None =
        violated-quiet (options_of words) made printed (told_violated made is) in
        let none = subst (λ (l : Option LiveLines). TakesLive l before.note after.note false) quiet live in
        ap (λ (s : SinkAt). s.held) none.0;
    stand = stands;
  }

  -- a write fault, of the output or of the note
  faulty : (Rose before.out.faults after.out.faults
      ⊎ LiveRose (asked_by (options_of words)) before.note after.note)
      → GainsPart before.out after.out made.text
      → TakesAfter made.live before.note after.note write_line
      → Promises words before after statuses.WriteFault
  faulty rose part live = record {
    causes = (files, rose);
    understood = understood-other (options_of words) made statuses.WriteFault printed
        (λ same. absurd cc);
    fetches = fetched;
    agrees = of_outcome (λ given. IsCalm words before after → Agrees given statuses.WriteFault) (λ _. tt);
    complete = of_outcome (λ given. IsCalm words before after
        → (Rose before.out.faults after.out.faults → ⊥)
        → (LiveRose (asked_by (options_of words)) before.note after.note → ⊥)
        → AgreesInFull given statuses.WriteFault)
        (λ _ out note. elim rose [ inl risen ↦ absurd (out risen) | inr risen ↦ absurd (note risen) ]);
    output = of_mapped (λ given. IsOkAnd given
        (λ answer. GainsPart before.out after.out answer.text)) part;
    prints = tt;
    notes = (
      made.live,
      options-asked (options_of words) made printed,
      of_mapped (λ given. IsOkAnd given (λ answer. answer.live ≡ made.live)) refl,
      live,
    );
    stand = stands;
  }

  -- an answer that was written, whole or not, after its lines
  pub promises-written : (mid : SinkAt) (failed : Bool) (status : Status)
      → TakesLive made.live before.note mid failed
      → IsWritten made failed before.out after.out mid after.note status
      → Promises words before after status
  promises-written mid false status live (inl own) =
      let taken : TakesLive made.live before.note after.note false =
      subst (λ (s : SinkAt). TakesLive made.live before.note s false) (sym own.2) live in
      elim (ended made) [
        | inl is ↦ subst (Promises words before after) (sym (own.0 ∙ is)) (done is own.1 taken)
        | inr is ↦ subst (Promises words before after) (sym (own.0 ∙ is)) (violated is own.1 taken)
      ]
  promises-written mid true status live (inl own) =
      let taken : TakesLive made.live before.note after.note true =
      subst (λ (s : SinkAt). TakesLive made.live before.note s true) (sym own.2) live in
      let rose = live-rose made.live before.note after.note taken in
      let asked = asked-some (asked_by (options_of words)) made.live
      (options-asked (options_of words) made printed) rose.0 in
      subst (Promises words before after) (sym own.0)
      (faulty (inr (asked, rose.1))
      (record {
        part = whole-part before.out.held after.out.held made.text own.1.gained;
        whole = λ _. own.1.gained;
      })
      (inl taken))
  promises-written mid failed status live (inr own) =
      subst (Promises words before after) (sym own.0)
      (faulty (inl own.1.rose)
      (record { part = own.1.gained; whole = λ calm. absurd (calm own.1.rose) })
      (takes-after made.live before.note mid after.note write_line failed live own.2))
