-- What a run promises that is refused.
use Rattle.std.proofs.Common.{◌≡◌, inl, inr, ℕ, Bool, false, List, length, Option, None, Some, IfSome, Result, Err, refl, sym, subst}
use Rattle.std.specs.Option.{option_map}
use Rattle.rcpsp_words.specs.declared.words.Options.{Options}
use Rattle.rcpsp_words.specs.Words.{options_of}
use Rattle.rcpsp_run.specs.declared.status.Status.{Status}
use Rattle.rcpsp_run.specs.declared.status.Status.TheVariants as statuses
use Rattle.rcpsp_run.specs.declared.refusal.Refusal.{Refusal}
use Rattle.rcpsp_run.specs.declared.refusal.Refusal.TheVariants.{Words, CannotRead, TooLarge, BadText, BadPlan, Cycle, BadList, Misfit, Memory}
use Rattle.rcpsp_run.specs.Answer.{Answer}
use Rattle.rcpsp_run.specs.Causes.{FetchesAtMost, HasCause, Explains, RefusesWords}
use Rattle.rcpsp_run.specs.Ending.{TellsUnless, IsSaid}
use Rattle.rcpsp_run.specs.Live.{asked_by, RefusedLive}
use Rattle.rcpsp_run.specs.Outcome.{names_of, outcome}
use Rattle.rcpsp_run.specs.Refusal.{status_of, line_of, memory_line}
use Rattle.rcpsp_run.specs.Run.{Ends, EndsStand, Promises, IsOfWords, OutputGains, PrintsOutput, NoteGains}
use Rattle.rcpsp_run.specs.Sinks.{SinkAt, Tells}
use Rattle.rcpsp_run.proofs.LiveLaws.{takes-after, refused-lines}
use Rattle.rcpsp_run.proofs.PromiseLaws.{fetches-refused, caused-refused, understood-refused, agrees-less}
use Rattle.rcpsp_run.proofs.RunLaws.{agrees-refused, IfSome-mapped, IfSome-implied}

-- a refusal puts nothing on the output
output-kept : (outcome : Option (Result Answer Refusal)) (before after : SinkAt) (refusal : Refusal)
    → after.held ≡ before.held → OutputGains outcome before after (status_of refusal)
output-kept outcome before after Words kept = kept
output-kept outcome before after (CannotRead name) kept = kept
output-kept outcome before after (TooLarge name) kept = kept
output-kept outcome before after (BadText name fault) kept = kept
output-kept outcome before after (BadPlan name fault) kept = kept
output-kept outcome before after (Cycle ring) kept = kept
output-kept outcome before after (BadList fault) kept = kept
output-kept outcome before after (Misfit misfit) kept = kept
output-kept outcome before after Memory kept = kept

-- so nothing is printed
prints-none : (options : Option Options) (before after : SinkAt) (refusal : Refusal)
    → PrintsOutput options before after (status_of refusal)
prints-none options before after Words = tt
prints-none options before after (CannotRead name) = tt
prints-none options before after (TooLarge name) = tt
prints-none options before after (BadText name fault) = tt
prints-none options before after (BadPlan name fault) = tt
prints-none options before after (Cycle ring) = tt
prints-none options before after (BadList fault) = tt
prints-none options before after (Misfit misfit) = tt
prints-none options before after Memory = tt

-- memory may run out whatever the words are
understood-memory : (options : Option Options) → IsOfWords options statuses.Memory
understood-memory None = inr refl
understood-memory (Some options) = λ same. absurd cc

-- a line before which nothing was told
tells-early : (before mid after : SinkAt) (line : List ℕ) (failed : Bool)
    → (mid ≡ before) × (failed ≡ false) → TellsUnless failed mid after line → Tells before after line
tells-early before mid after line failed none tells =
    subst (λ (s : SinkAt). Tells s after line) none.0 (tells.tells none.1)

-- the note gains the line of a refusal, after the lines that were told before
module _ (names : List (List ℕ)) (asked : Option ℕ) (outcome : Option (Result Answer Refusal))
    (before after : Ends) (mid : SinkAt) (failed : Bool) where
  note-refused : (refusal : Refusal) → HasCause names before.files after.files refusal
      → RefusedLive asked before.note mid failed refusal
      → TellsUnless failed mid after.note (line_of refusal) → IfSome outcome (Explains refusal)
      → NoteGains names asked outcome before after (status_of refusal)
  note-refused Words cause noted tells explains =
      (Words, refl, cause, tells-early before.note mid after.note _ failed noted tells, explains)
  note-refused (CannotRead name) cause noted tells explains =
      (CannotRead name, refl, cause, tells-early before.note mid after.note _ failed noted tells, explains)
  note-refused (TooLarge name) cause noted tells explains =
      (TooLarge name, refl, cause, tells-early before.note mid after.note _ failed noted tells, explains)
  note-refused (BadText name fault) cause noted tells explains =
      (BadText name fault, refl, cause, tells-early before.note mid after.note _ failed noted tells, explains)
  note-refused (BadPlan name fault) cause noted tells explains =
      (BadPlan name fault, refl, cause, tells-early before.note mid after.note _ failed noted tells, explains)
  note-refused (Cycle ring) cause noted tells explains =
      (Cycle ring, refl, cause, tells-early before.note mid after.note _ failed noted tells, explains)
  note-refused (BadList fault) cause noted tells explains =
      (BadList fault, refl, cause, tells-early before.note mid after.note _ failed noted tells, explains)
  note-refused (Misfit misfit) cause noted tells explains =
      (Misfit misfit, refl, cause, tells-early before.note mid after.note _ failed noted tells, explains)
  note-refused Memory cause noted tells explains = (
    noted.0,
    noted.1,
    takes-after noted.0 before.note mid after.note memory_line failed noted.2 tells,
  )

-- a run that is refused, after what the note was told
pub promises-refused : (T : Type 0) (words : List (List ℕ)) (before after : Ends) (mid : SinkAt)
    (failed : Bool) (status : Status) (refusal : Refusal)
    → HasCause (names_of (options_of words)) before.files after.files refusal
    → FetchesAtMost (length (names_of (options_of words))) before.files after.files
    → RefusesWords {T = T} (options_of words) (Err refusal)
    → IfSome before.files.told (λ pairs. Explains refusal (outcome words pairs))
    → RefusedLive (asked_by (options_of words)) before.note mid failed refusal
    → IsSaid refusal failed mid after.note status
    → after.out.held ≡ before.out.held → EndsStand before after
    → Promises words before after status
promises-refused T words before after mid failed status refusal cause most refuses explains
    noted (inl said) kept stands =
    let names = names_of (options_of words) in
    let asked = asked_by (options_of words) in
    let told = before.files.told in
    let is = said.0 in
    record {
      causes = caused-refused names asked before after status refusal is cause;
      understood = understood-refused T (options_of words) status refusal is refuses;
      fetches = fetches-refused names before.files after.files status refusal is cause most;
      agrees = IfSome-implied told (λ pairs. Explains refusal (outcome words pairs)) _
          (λ pairs explained calm. agrees-less (outcome words pairs) status
          (agrees-refused names before.files after.files (outcome words pairs) status refusal is cause
          calm explained)) explains;
      complete = IfSome-implied told (λ pairs. Explains refusal (outcome words pairs)) _
          (λ pairs explained calm _ _. agrees-refused names before.files after.files
          (outcome words pairs) status refusal is cause calm explained) explains;
      output = subst (OutputGains (option_map (outcome words) told) before.out after.out) (sym is)
          (output-kept (option_map (outcome words) told) before.out after.out refusal kept);
      prints = subst (PrintsOutput (options_of words) before.out after.out) (sym is)
          (prints-none (options_of words) before.out after.out refusal);
      notes = subst (NoteGains names asked (option_map (outcome words) told) before after) (sym is)
          (note-refused names asked (option_map (outcome words) told) before after mid failed
          refusal cause noted said.1
          (IfSome-mapped told (outcome words) (Explains refusal) explains));
      stand = stands;
    }
promises-refused T words before after mid failed status refusal cause most refuses explains
    noted (inr said) kept stands =
    let told = before.files.told in
    let lines = refused-lines (asked_by (options_of words)) before.note mid failed refusal noted in
    subst (Promises words before after) (sym said.0) (record {
      causes = tt;
      understood = understood-memory (options_of words);
      fetches = most;
      agrees = IfSome-implied told (λ pairs. Explains refusal (outcome words pairs)) _
          (λ pairs explained calm. tt) explains;
      complete = IfSome-implied told (λ pairs. Explains refusal (outcome words pairs)) _
          (λ pairs explained calm _ _. tt) explains;
      output = kept;
      prints = tt;
      notes = (
        lines.0,
        lines.1,
        takes-after lines.0 before.note mid after.note memory_line failed lines.2 said.1,
      );
      stand = stands;
    })
