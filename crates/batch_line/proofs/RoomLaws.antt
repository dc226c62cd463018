-- That the room of a run's sinks is not used up.
use Rattle.std.proofs.Common.{◌≡◌, ◌≢◌, inl, inr, ℕ, ◌+◌, ◌<◌, ◌≤◌, List, [], ◌∷◌, ◌++◌, length, true, false, Option, None, Some, Result, Ok, Err, refl, ap, ◌∙◌, subst, arith, codes}
use Rattle.std.specs.Prelude.{IsOkAnd}
use Rattle.std.proofs.lemmas.List.{length-append}
use Rattle.rc_instance.specs.declared.limits.TheConstants.{MAX_FILE_BYTES}
use Rattle.rc_instance.specs.Project.{Project}
use Rattle.rc_instance.specs.FaultWords.{misfit_words}
use Rattle.rc_edge.specs.declared.text_fault.TextFault.{TextFault}
use Rattle.rc_edge.specs.TextFault.{fault_words}
use Rattle.rc_edge.specs.Sink.{Gains}
use Rattle.activity_net.specs.RingWords.{ring_words}
use Rattle.rcpsp_words.specs.declared.values.format.Format.{Format}
use Rattle.rcpsp_words.specs.declared.values.format.Format.TheVariants.{Sm, Rcp}
use Rattle.text_bounds.specs.Bounds.{IsRead, IsFaultOf}
use Rattle.text_bounds.proofs.TableBounds.{table_short}
use Rattle.text_bounds.proofs.RingBounds.{cycle_short}
use Rattle.text_bounds.proofs.WordBounds.{read_within, fault_short, misfit_short}
use Rattle.rcpsp_run.specs.declared.status.Status.{Status}
use Rattle.rcpsp_run.specs.declared.status.Status.TheVariants as statuses
use Rattle.rcpsp_run.specs.declared.refusal.Refusal.{Refusal}
use Rattle.rcpsp_run.specs.declared.refusal.Refusal.TheVariants.{BadText}
use Rattle.rcpsp_run.specs.Answer.{Answer}
use Rattle.rcpsp_run.specs.Refusal.{status_of, refusal_words, line_of, write_line}
use Rattle.rcpsp_run.specs.Causes.{HasCause, Explains}
use Rattle.rcpsp_run.specs.Steps.Instance.{read_by}
use Rattle.rcpsp_run.specs.Live.{AreAsked, TakesLive, TakesAfter}
use Rattle.rcpsp_run.specs.Run.{Ends, AreCalm, GainsPart, OutputGains, NoteGains}
use Rattle.rcpsp_run.specs.Sinks.{SinkAt, Tells}
use Rattle.batch_line.specs.Batch.{alone, IsPlainName, text_in, line_in}
use Rattle.batch_line.proofs.AloneCases.{alone_cases}
use Rattle.batch_line.proofs.QuietLaws.{quiet_lines, unchanged, gained, prefix_short, explained}

-- the text and the line of an outcome use up less than there is, and so does the line of a write
-- fault
pub record HasRoom (text_room line_room : ℕ) (o : Result Answer Refusal) : Type 0 where
  pub text : length (text_in o) < text_room
  pub line : length (line_in o) < line_room
  pub words : 20 < line_room

-- the line round some words
line_length : (words : List ℕ)
    → length (codes "rcpsp: " ++ words ++ codes "\n") ≡ length words + 8
line_length words =
    let head : length (codes "rcpsp: ") ≡ 7 = refl in
    let end : length (codes "\n") ≡ 1 = refl in
    omega (
      arith,
      head,
      end,
      length-append (codes "rcpsp: " ++ words) (codes "\n"),
      length-append (codes "rcpsp: ") words,
    )

-- what is said of a bad text
bad_short : (name bytes : List ℕ) (format : Format) (fault : TextFault)
    → length bytes ≤ MAX_FILE_BYTES → read_by format bytes ≡ Err fault
    → length (refusal_words (BadText name fault)) ≤ length name + 102
bad_short name bytes format fault small read =
    let short = fault_short bytes fault small (by_format format read) in
    let colon : length (codes ": ") ≡ 2 = refl in
    omega (
      arith,
      short,
      colon,
      length-append (name ++ codes ": ") (fault_words fault),
      length-append name (codes ": "),
    )
  where
    by_format : (format : Format) → read_by format bytes ≡ Err fault → IsFaultOf bytes fault
    by_format Sm read = inr read
    by_format Rcp read = inl read

-- an instance is that of the text, in one of the formats
is_read : (bytes : List ℕ) (format : Format) (project : Project) → read_by format bytes ≡ Ok project
    → IsRead bytes project
is_read bytes Sm project read = inr read
is_read bytes Rcp project read = inl read

-- a file alone leaves room
pub alone_room : (name bytes : List ℕ) (text_room line_room : ℕ) → IsPlainName name
    → length bytes ≤ MAX_FILE_BYTES → 25100 < text_room → length name + 5200 < line_room
    → HasRoom text_room line_room (alone ((name, bytes) ∷ []) name)
alone_room name bytes text_room line_room plain small text line =
    alone_cases (HasRoom text_room line_room) name bytes
    (λ format fault read. record {
      text = omega (arith, text);
      line = omega (
        arith,
        line,
        line_length (refusal_words (BadText name fault)),
        bad_short name bytes format fault small read,
      );
      words = omega (arith, line);
    })
    (λ format project ring read shown. record {
      text = omega (arith, text);
      line = omega (
        arith,
        line,
        line_length (ring_words ring),
        cycle_short project ring
            (read_within bytes project (is_read bytes format project read)) shown,
      );
      words = omega (arith, line);
    })
    (λ format project misfit read first. record {
      text = omega (arith, text);
      line = omega (
        arith,
        line,
        line_length (misfit_words misfit),
        misfit_short bytes project misfit (is_read bytes format project read) first,
      );
      words = omega (arith, line);
    })
    (λ format project read acyclic none. record {
      text = omega (
        arith,
        text,
        table_short project (read_within bytes project (is_read bytes format project read)),
      );
      line = omega (arith, line);
      words = omega (arith, line);
    })
    plain small

-- what the output took is no longer than the text
module _ (before after : SinkAt) (text : List ℕ) (empty : before.held ≡ Some [])
    (now : after.held ≡ Some text) where
  whole_short : (o : Result Answer Refusal)
      → IsOkAnd o (λ answer. Gains before.held after.held answer.text)
      → length text ≤ length (text_in o)
  whole_short (Ok answer) gains =
      omega (arith, ap length (gained before.held after.held answer.text text empty now gains))
  whole_short (Err refusal) gains = absurd gains

  part_short : (o : Result Answer Refusal)
      → IsOkAnd o (λ answer. GainsPart before after answer.text)
      → length text ≤ length (text_in o)
  part_short (Ok answer) part =
      prefix_short before.held after.held answer.text text empty now part.part
  part_short (Err refusal) part = absurd part

  none_short : (o : Result Answer Refusal) → after.held ≡ before.held
      → length text ≤ length (text_in o)
  none_short o same =
      omega (arith, ap length (unchanged before.held after.held text empty now same))

pub text_short : (o : Result Answer Refusal) (before after : SinkAt) (text : List ℕ)
    → before.held ≡ Some [] → after.held ≡ Some text → (status : Status)
    → OutputGains (Some o) before after status → length text ≤ length (text_in o)
text_short o before after text empty now statuses.Done output =
    whole_short before after text empty now o output
text_short o before after text empty now statuses.Violated output =
    whole_short before after text empty now o output
text_short o before after text empty now statuses.WriteFault output =
    part_short before after text empty now o output
text_short o before after text empty now statuses.BadText output =
    none_short before after text empty now o output
text_short o before after text empty now statuses.Cycle output =
    none_short before after text empty now o output
text_short o before after text empty now statuses.BadList output =
    none_short before after text empty now o output
text_short o before after text empty now statuses.Words output =
    none_short before after text empty now o output
text_short o before after text empty now statuses.Misfit output =
    none_short before after text empty now o output
text_short o before after text empty now statuses.ReadFault output =
    none_short before after text empty now o output
text_short o before after text empty now statuses.Memory output =
    none_short before after text empty now o output
text_short o before after text empty now statuses.TooLarge output =
    none_short before after text empty now o output

-- what the note took is shorter than its room
module _ (names : List (List ℕ)) (asked : Option ℕ) (none : asked ≡ None)
    (o : Result Answer Refusal) (before after : Ends) (line : List ℕ)
    (still : AreCalm names before.files after.files) (empty : before.note.held ≡ Some [])
    (now : after.note.held ≡ Some line) (room : ℕ) where
  quiet_short : (lines : Option _) → AreAsked asked lines
      → TakesLive lines before.note after.note false → length line ≡ 0
  quiet_short lines same takes =
      let stands = quiet_lines asked lines before.note after.note none same takes in
      ap length (unchanged before.note.held after.note.held line empty now
      (ap (λ (s : SinkAt). s.held) stands))

  after_short : (lines : Option _) (words : List ℕ) → AreAsked asked lines
      → TakesAfter lines before.note after.note words → length line ≤ length words
  after_short None words same (inl takes) = absurd (true_is_not_false takes.1)
    where
      true_is_not_false : true ≡ false → ⊥
      true_is_not_false same = absurd cc
  after_short None words same (inr told) =
      let tells = subst (λ (s : SinkAt). Tells s after.note words) told.1.0 told.2 in
      prefix_short before.note.held after.note.held words line empty now tells.part
  after_short (Some lines) words same takes =
      let wrong = same ∙ none in
      absurd cc

  refused_short : {text_room : ℕ} → HasRoom text_room room o → (status : Status)
      → status ≢ statuses.Memory
      → ((refusal : Refusal) × (status_of refusal ≡ status)
      × HasCause names before.files after.files refusal
      × Tells before.note after.note (line_of refusal) × Explains refusal o)
      → length line < room
  refused_short has status other notes =
      let refusal = notes.0 in
      let is : o ≡ Err refusal =
      explained names before.files after.files o status refusal other still notes.1 notes.2
      notes.4 in
      let short = prefix_short before.note.held after.note.held (line_of refusal) line empty now
      notes.3.part in
      omega (arith, short, has.line, ap (λ (r : Result Answer Refusal). length (line_in r)) is)

  -- so the note took less than its room
  pub line_short : {text_room : ℕ} → HasRoom text_room room o → (status : Status)
      → status ≢ statuses.Memory → NoteGains names asked (Some o) before after status
      → length line < room
  line_short has statuses.Done other notes =
      omega (arith, quiet_short notes.0 notes.1 notes.3, has.words)
  line_short has statuses.Violated other notes =
      let short = ap length (unchanged before.note.held after.note.held line empty now notes) in
      omega (arith, short, has.words)
  line_short has statuses.WriteFault other notes =
      let words : length write_line ≡ 20 = refl in
      omega (arith, after_short notes.0 write_line notes.1 notes.3, words, has.words)
  line_short has statuses.Memory other notes = absurd (other refl)
  line_short has statuses.BadText other notes = refused_short has statuses.BadText other notes
  line_short has statuses.Cycle other notes = refused_short has statuses.Cycle other notes
  line_short has statuses.BadList other notes = refused_short has statuses.BadList other notes
  line_short has statuses.Words other notes = refused_short has statuses.Words other notes
  line_short has statuses.Misfit other notes = refused_short has statuses.Misfit other notes
  line_short has statuses.ReadFault other notes = refused_short has statuses.ReadFault other notes
  line_short has statuses.TooLarge other notes = refused_short has statuses.TooLarge other notes
