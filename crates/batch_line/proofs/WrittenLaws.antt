-- What a run of many files promises whose output is written.
use Rattle.std.proofs.Common.{◌≡◌, ◌≢◌, inl, inr, ℕ, List, length, Option, None, Some, IsSome, IfSome, IsOkAnd, Result, Ok, refl, sym, subst}
use Rattle.std.specs.Option.{option_map}
use Rattle.rc_edge.specs.Faults.{Rose, counted_on}
use Rattle.rc_edge.specs.Sink.{Gains, GainsPrefix}
use Rattle.rcpsp_words.specs.Many.{Many, many_of}
use Rattle.rcpsp_run.specs.declared.status.Status.{Status}
use Rattle.rcpsp_run.specs.declared.status.Status.TheVariants as statuses
use Rattle.rcpsp_run.specs.declared.refusal.Refusal.{Refusal}
use Rattle.rcpsp_run.specs.Causes.{FilesStand}
use Rattle.rcpsp_run.specs.Ending.{TakesPart}
use Rattle.rcpsp_run.specs.Refusal.{write_line}
use Rattle.rcpsp_run.specs.Run.{Ends, EndsStand, AreCalm}
use Rattle.rcpsp_run.specs.Sinks.{Tells}
use Rattle.rcpsp_run.proofs.RunLaws.{IfSome-mapped, IfSome-implied}
use Rattle.batch_line.specs.Batch.{Joined, IsEnding, names_said, many_outcome}
use Rattle.batch_line.specs.Ending.{IsWritten}
use Rattle.batch_line.specs.Run.{IsCaused, IsOfWords, MakesFetches, Agrees, AgreesInFull, OutputGains, NoteGains, Promises}

-- what holds of each of the four ways in which files can end
each_ending : (P : Status → Type 0) → P statuses.Done → P statuses.BadText → P statuses.Cycle
    → P statuses.Misfit → (ended : Status) → IsEnding ended → P ended
each_ending P done bad cycle misfit statuses.Done is = done
each_ending P done bad cycle misfit statuses.BadText is = bad
each_ending P done bad cycle misfit statuses.Cycle is = cycle
each_ending P done bad cycle misfit statuses.BadList is = absurd is
each_ending P done bad cycle misfit statuses.Words is = absurd is
each_ending P done bad cycle misfit statuses.Misfit is = misfit
each_ending P done bad cycle misfit statuses.Violated is = absurd is
each_ending P done bad cycle misfit statuses.ReadFault is = absurd is
each_ending P done bad cycle misfit statuses.WriteFault is = absurd is
each_ending P done bad cycle misfit statuses.Memory is = absurd is
each_ending P done bad cycle misfit statuses.TooLarge is = absurd is

-- words that say something end with another status than `Words`
pub understood_other : (said : Option Many) (ended : Status) → IsSome said → ended ≢ statuses.Words
    → IsOfWords said ended
understood_other None ended some other = absurd cc
understood_other (Some many) ended some other = other

-- no count of faults of a name that the words give rose
abbrev pub IsCalm : List (List ℕ) → Ends → Ends → Type 0
IsCalm words before after = AreCalm (names_said (many_of words)) before.files after.files

module _ (words : List (List ℕ)) (before after : Ends) (made : Joined) (ends : IsEnding made.status)
    (files : FilesStand before.files after.files)
    (fetched : after.files.fetches
    ≡ counted_on before.files.fetches (length (names_said (many_of words))))
    (gives : IfSome before.files.told (λ pairs. many_outcome words pairs ≡ Ok made))
    (some : IsSome (many_of words)) (stands : EndsStand before after) where
  -- what the joined runs have, the outcome has where the files tell their map
  of_outcome : (P : Result Joined Refusal → Type 0) → P (Ok made)
      → IfSome before.files.told (λ pairs. P (many_outcome words pairs))
  of_outcome P is =
      IfSome-implied before.files.told (λ pairs. many_outcome words pairs ≡ Ok made)
      (λ pairs. P (many_outcome words pairs)) (λ pairs same. subst P (sym same) is) gives

  of_mapped : (P : Result Joined Refusal → Type 0) → P (Ok made)
      → IfSome (option_map (many_outcome words) before.files.told) P
  of_mapped P is = IfSome-mapped before.files.told (many_outcome words) P (of_outcome P is)

  -- the text was written whole
  module _ (gained : Gains before.out.held after.out.held made.text)
      (still : after.out.faults ≡ before.out.faults) (quiet : after.note ≡ before.note) where
    caused : (ended : Status) → IsEnding ended
        → IsCaused (names_said (many_of words)) before after ended
    caused ended is =
        let both : FilesStand before.files after.files × (after.out.faults ≡ before.out.faults) =
        (files, still) in
        each_ending (IsCaused (names_said (many_of words)) before after) both both both both ended
        is

    other_than_words : (ended : Status) → IsEnding ended → ended ≢ statuses.Words
    other_than_words ended is =
        each_ending (λ s. s ≢ statuses.Words) (λ same. absurd cc) (λ same. absurd cc)
        (λ same. absurd cc) (λ same. absurd cc) ended is

    all_fetched : (ended : Status) → IsEnding ended
        → MakesFetches (names_said (many_of words)) before.files after.files ended
    all_fetched ended is =
        each_ending (MakesFetches (names_said (many_of words)) before.files after.files) fetched
        fetched fetched fetched ended is

    agrees_so : (ended : Status) → IsEnding ended → ended ≡ made.status → Agrees (Ok made) ended
    agrees_so ended is =
        each_ending (λ s. s ≡ made.status → Agrees (Ok made) s) (λ same. same) (λ same. same)
        (λ same. same) (λ same. same) ended is

    agrees_whole : (ended : Status) → IsEnding ended → ended ≡ made.status
        → AgreesInFull (Ok made) ended
    agrees_whole ended is =
        each_ending (λ s. s ≡ made.status → AgreesInFull (Ok made) s) (λ same. same) (λ same. same)
        (λ same. same) (λ same. same) ended is

    gains_so : (ended : Status) → ended ≡ made.status
        → IfSome (option_map (many_outcome words) before.files.told)
        (λ given. IsOkAnd given (λ joined. (ended ≡ joined.status)
        × Gains before.out.held after.out.held joined.text))
    gains_so ended same =
        of_mapped (λ given. IsOkAnd given (λ joined. (ended ≡ joined.status)
        × Gains before.out.held after.out.held joined.text)) (same, gained)

    output_gains : (ended : Status) → IsEnding ended → ended ≡ made.status
        → OutputGains (option_map (many_outcome words) before.files.told) before.out after.out ended
    output_gains ended is =
        each_ending (λ s. s ≡ made.status
        → OutputGains (option_map (many_outcome words) before.files.told) before.out after.out s)
        (gains_so statuses.Done) (gains_so statuses.BadText) (gains_so statuses.Cycle)
        (gains_so statuses.Misfit) ended is

    note_stands : (ended : Status) → IsEnding ended
        → NoteGains (names_said (many_of words)) (option_map (many_outcome words) before.files.told)
        before after ended
    note_stands ended is =
        each_ending (NoteGains (names_said (many_of words))
        (option_map (many_outcome words) before.files.told) before after) quiet quiet quiet quiet
        ended is

    whole : (ended : Status) → IsEnding ended → ended ≡ made.status
        → Promises words before after ended
    whole ended is same = record {
      causes = caused ended is;
      understood = understood_other (many_of words) ended some (other_than_words ended is);
      fetches = all_fetched ended is;
      agrees = of_outcome (λ given. IsCalm words before after → Agrees given ended)
          (λ _. agrees_so ended is same);
      complete = of_outcome (λ given. IsCalm words before after
          → (Rose before.out.faults after.out.faults → ⊥) → AgreesInFull given ended)
          (λ _ _. agrees_whole ended is same);
      output = output_gains ended is same;
      notes = note_stands ended is;
      stand = stands;
    }

  -- a write fault
  faulty : TakesPart before.out after.out made.text → Tells before.note after.note write_line
      → Promises words before after statuses.WriteFault
  faulty part told = record {
    causes = (files, part.rose);
    understood = understood_other (many_of words) statuses.WriteFault some (λ same. absurd cc);
    fetches = fetched;
    agrees = of_outcome (λ given. IsCalm words before after → Agrees given statuses.WriteFault)
        (λ _. tt);
    complete = of_outcome (λ given. IsCalm words before after
        → (Rose before.out.faults after.out.faults → ⊥) → AgreesInFull given statuses.WriteFault)
        (λ _ calm. absurd (calm part.rose));
    output = of_mapped (λ given. IsOkAnd given
        (λ joined. GainsPrefix before.out.held after.out.held joined.text)) part.gained;
    notes = told;
    stand = stands;
  }

  -- what was joined is written, whole or not
  pub promises_written : (ended : Status)
      → IsWritten made before.out after.out before.note after.note ended
      → Promises words before after ended
  promises_written ended (inl own) =
      subst (Promises words before after) (sym own.0)
      (whole own.1.gained own.1.stands own.2 made.status ends refl)
  promises_written ended (inr own) =
      subst (Promises words before after) (sym own.0) (faulty own.1 own.2)
