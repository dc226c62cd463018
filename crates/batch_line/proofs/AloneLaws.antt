-- What the run of one file comes to.
use Rattle.std.proofs.Common.{◌≡◌, ◌≢◌, ◌⊎◌, inl, inr, ℕ, ◌<◌, List, [], length, false, Option, None, Some, IfSome, Result, Ok, Err, refl, sym, ap, ◌∙◌, subst, arith}
use Rattle.std.specs.Prelude.{IsOkAnd}
use Rattle.std.specs.Option.{option_map}
use Rattle.rc_edge.specs.Faults.{Rose}
use Rattle.rc_edge.specs.Sink.{Gains}
use Rattle.rcpsp_words.specs.Words.{options_of}
use Rattle.rcpsp_words.specs.Many.{plain_words}
use Rattle.rcpsp_run.specs.declared.status.Status.{Status}
use Rattle.rcpsp_run.specs.declared.status.Status.TheVariants as statuses
use Rattle.rcpsp_run.specs.declared.refusal.Refusal.{Refusal}
use Rattle.rcpsp_run.specs.Answer.{Answer, ending}
use Rattle.rcpsp_run.specs.Refusal.{status_of, line_of}
use Rattle.rcpsp_run.specs.Causes.{HasCause, Explains}
use Rattle.rcpsp_run.specs.Live.{asked_by, AreAsked, TakesLive}
use Rattle.rcpsp_run.specs.Outcome.{names_of, outcome}
use Rattle.rcpsp_run.specs.Run.{Ends, Promises, IsCaused, AreCalm, AgreesInFull, LiveRose, OutputGains, NoteGains}
use Rattle.rcpsp_run.specs.Sinks.{SinkAt, Tells}
use Rattle.batch_line.specs.Batch.{alone, status_in, text_in, line_in}
use Rattle.batch_line.proofs.QuietLaws.{none_asked, quiet_lines, calm, gained, unchanged, explained}
use Rattle.batch_line.proofs.RoomLaws.{HasRoom, text_short, line_short}

-- the status, the text and the line are those of the outcome
abbrev pub IsRun : Result Answer Refusal → Status → List ℕ → List ℕ → Type 0
IsRun outcome status text line =
    (status ≡ status_in outcome) × (text ≡ text_in outcome) × (line ≡ line_in outcome)

module _ (names : List (List ℕ)) (asked : Option ℕ) (none : asked ≡ None)
    (o : Result Answer Refusal) (before after : Ends) (text line : List ℕ)
    (still : AreCalm names before.files after.files)
    (out_quiet : Rose before.out.faults after.out.faults → ⊥)
    (note_quiet : Rose before.note.faults after.note.faults → ⊥)
    (out_empty : before.out.held ≡ Some []) (out_now : after.out.held ≡ Some text)
    (note_empty : before.note.held ≡ Some []) (note_now : after.note.held ≡ Some line) where
  -- a run that is refused
  by_line : (status : Status) → status ≢ statuses.Memory → after.out.held ≡ before.out.held
      → ((refusal : Refusal) × (status_of refusal ≡ status)
      × HasCause names before.files after.files refusal
      × Tells before.note after.note (line_of refusal) × Explains refusal o)
      → IsRun o status text line
  by_line status other same notes =
      let refusal = notes.0 in
      let is : o ≡ Err refusal =
      explained names before.files after.files o status refusal other still notes.1 notes.2
      notes.4 in (
        sym notes.1 ∙ ap status_in (sym is),
        unchanged before.out.held after.out.held text out_empty out_now same ∙ ap text_in (sym is),
        gained before.note.held after.note.held (line_of refusal) line note_empty note_now
            (notes.3.whole note_quiet)
            ∙ ap line_in (sym is),
      )

  -- a run that writes its output
  by_text : (result : Result Answer Refusal) (status : Status)
      → ((answer : Answer) → result ≡ Ok answer → status ≡ ending answer)
      → IsOkAnd result (λ answer. Gains before.out.held after.out.held answer.text)
      → after.note.held ≡ before.note.held → IsRun result status text line
  by_text (Ok answer) status agrees gains same = (
    agrees answer refl,
    gained before.out.held after.out.held answer.text text out_empty out_now gains,
    unchanged before.note.held after.note.held line note_empty note_now same,
  )
  by_text (Err refusal) status agrees gains same = absurd gains

  -- the note has nothing where the lines are those that are asked for
  no_line : (lines : Option _) → AreAsked asked lines
      → TakesLive lines before.note after.note false → after.note.held ≡ before.note.held
  no_line lines same takes =
      ap (λ (s : SinkAt). s.held) (quiet_lines asked lines before.note after.note none same takes)

  no_fault : (Rose before.out.faults after.out.faults ⊎ LiveRose asked before.note after.note) → ⊥
  no_fault (inl rose) = out_quiet rose
  no_fault (inr live) = note_quiet live.1

  by_status : (status : Status) → status ≢ statuses.Memory
      → IsCaused names asked before after status
      → AgreesInFull o status → OutputGains (Some o) before.out after.out status
      → NoteGains names asked (Some o) before after status → IsRun o status text line
  by_status statuses.Done other cause agrees output notes =
      by_text o statuses.Done
      (λ answer same. subst (λ (r : Result Answer Refusal). AgreesInFull r statuses.Done) same
      agrees)
      output (no_line notes.0 notes.1 notes.3)
  by_status statuses.Violated other cause agrees output notes =
      by_text o statuses.Violated
      (λ answer same. subst (λ (r : Result Answer Refusal). AgreesInFull r statuses.Violated) same
      agrees)
      output notes
  by_status statuses.WriteFault other cause agrees output notes = absurd (no_fault cause.1)
  by_status statuses.Memory other cause agrees output notes = absurd (other refl)
  by_status statuses.BadText other cause agrees output notes =
      by_line statuses.BadText other output notes
  by_status statuses.Cycle other cause agrees output notes =
      by_line statuses.Cycle other output notes
  by_status statuses.BadList other cause agrees output notes =
      by_line statuses.BadList other output notes
  by_status statuses.Words other cause agrees output notes =
      by_line statuses.Words other output notes
  by_status statuses.Misfit other cause agrees output notes =
      by_line statuses.Misfit other output notes
  by_status statuses.ReadFault other cause agrees output notes =
      by_line statuses.ReadFault other output notes
  by_status statuses.TooLarge other cause agrees output notes =
      by_line statuses.TooLarge other output notes

-- a run of the plain words of a name, of whose file no count rose, over sinks with more room than
-- its text and its line take, which fail only where the room is used up, and which ended otherwise
-- than for want of memory, came to the outcome
pub is_alone : {words : List (List ℕ)} {before after : Ends} {status : Status} (name : List ℕ)
    (pairs : List (List ℕ × List ℕ)) (text line : List ℕ) (text_room line_room : ℕ)
    → Promises words before after status
    → words ≡ plain_words name → before.files.told ≡ Some pairs
    → (Rose (before.files.faults name) (after.files.faults name) → ⊥)
    → (length text < text_room → Rose before.out.faults after.out.faults → ⊥)
    → (length line < line_room → Rose before.note.faults after.note.faults → ⊥)
    → HasRoom text_room line_room (alone pairs name)
    → before.out.held ≡ Some [] → after.out.held ≡ Some text → before.note.held ≡ Some []
    → after.note.held ≡ Some line → status ≢ statuses.Memory
    → IsRun (alone pairs name) status text line
is_alone {words} {before} {after} {status} name pairs text line text_room line_room run plain told
    files_still out_full note_full room out_empty out_now note_empty note_now other =
    let promises = subst (λ (w : List (List ℕ)). Promises w before after status) plain run in
    let options = options_of (plain_words name) in
    let names = names_of options in
    let asked = asked_by options in
    let o = alone pairs name in
    let still = calm name before.files after.files files_still in
    let told_so = λ (P : Option (List (List ℕ × List ℕ)) → Type 0) (so : P before.files.told).
    subst P told so in
    let output = told_so (λ t. OutputGains (option_map (outcome (plain_words name)) t) before.out
    after.out status) promises.output in
    let notes = told_so (λ t. NoteGains names asked (option_map (outcome (plain_words name)) t)
    before after status) promises.notes in
    let none = none_asked name in
    let short = text_short o before.out after.out text out_empty out_now status output in
    let out_quiet = out_full (omega (arith, short, room.text)) in
    let few = line_short names asked none o before after line still note_empty note_now line_room
    room status other notes in
    let note_quiet = note_full few in
    by_status names asked none o before after text line still out_quiet note_quiet out_empty out_now
    note_empty note_now status other promises.causes
    (told_so (λ t. IfSome t (λ known. AreCalm names before.files after.files
    → (Rose before.out.faults after.out.faults → ⊥) → (LiveRose asked before.note after.note → ⊥)
    → AgreesInFull (outcome (plain_words name) known) status)) promises.complete still out_quiet
    (λ live. note_quiet live.1))
    output notes
