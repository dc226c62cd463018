-- What the note gains while workers book.
use Rattle.std.proofs.Common.{◌≡◌, ◌⊎◌, inl, inr, ℕ, Bool, true, false, List, Option, None, Some, IsSome, IsSomeAnd, IfOk, OnOk, OnErr, IsErr, IsErrAnd, Result, Ok, Err, refl, sym, subst, ap, ◌∙◌}
use Rattle.std.specs.Option.{option_map}
use Rattle.rc_instance.specs.Project.{activity_count}
use Rattle.rc_edge.specs.Faults.{Rose}
use Rattle.worker_run.specs.Told.{TellsRun}
use Rattle.rcpsp_words.specs.declared.commands.Command.{Command}
use Rattle.rcpsp_words.specs.declared.commands.Command.TheVariants.{Schedule, Parallel, Sample, Check, Convert, Windows, Trial}
use Rattle.rcpsp_words.specs.declared.words.Options.{Options}
use Rattle.rcpsp_run.specs.declared.answer.Answer.{Answer as Made}
use Rattle.rcpsp_run.specs.declared.answer.LiveLines.{LiveLines}
use Rattle.rcpsp_run.specs.declared.refusal.Refusal.{Refusal}
use Rattle.rcpsp_run.specs.declared.refusal.Refusal.TheVariants.{Words, CannotRead, TooLarge, BadText, BadPlan, Cycle, BadList, Misfit, Memory}
use Rattle.rcpsp_run.specs.Answer.{Answer, answer_view}
use Rattle.rcpsp_run.specs.Commands.{IsPrintedBy}
use Rattle.rcpsp_run.specs.Ending.{TellsUnless}
use Rattle.rcpsp_run.specs.Live.{live_shown, live_asked, asked_by, lines_for, AreAsked, TakesLive, TakesAfter, RefusedLive, NotesLive}
use Rattle.rcpsp_run.specs.Sinks.{SinkAt}

-- where no put of the lines failed, the count of the note stands
pub live-stands : (lines : Option LiveLines) (before after : SinkAt)
    → TakesLive lines before after false → after.faults ≡ before.faults
live-stands None before after takes = ap (λ (s : SinkAt). s.faults) takes.0
live-stands (Some lines) before after takes = (takes.taken.whole refl).0

pub true-is_not_false : true ≡ false → ⊥
true-is_not_false same = absurd cc

-- where one failed there are lines, and the count rose
pub live-rose : (lines : Option LiveLines) (before after : SinkAt)
    → TakesLive lines before after true → IsSome lines × Rose before.faults after.faults
live-rose None before after takes = absurd (true-is_not_false takes.1)
live-rose (Some lines) before after takes = (refl, (takes.taken.part refl).0)

-- where there are the lines that are asked for, some are asked for
pub asked-some : (asked : Option ℕ) (lines : Option LiveLines) → AreAsked asked lines → IsSome lines
    → IsSome asked
asked-some asked None same some = absurd cc
asked-some asked (Some lines) same some = subst (λ (o : Option ℕ). IsSome o) same refl

-- a line after these, unless a put failed
pub takes-after : (lines : Option LiveLines) (before mid after : SinkAt) (line : List ℕ) (failed : Bool)
    → TakesLive lines before mid failed → TellsUnless failed mid after line
    → TakesAfter lines before after line
takes-after lines before mid after line false takes tells = inr (mid, takes, tells.tells refl)
takes-after lines before mid after line true takes tells =
    inl (subst (λ (s : SinkAt). TakesLive lines before s true) (sym (tells.still refl)) takes)

-- a refusal before any line
early : (asked : Option ℕ) (now : SinkAt) (refusal : Refusal) → RefusedLive asked now now false refusal
early asked now Words = (refl, refl)
early asked now (CannotRead name) = (refl, refl)
early asked now (TooLarge name) = (refl, refl)
early asked now (BadText name fault) = (refl, refl)
early asked now (BadPlan name fault) = (refl, refl)
early asked now (Cycle ring) = (refl, refl)
early asked now (BadList fault) = (refl, refl)
early asked now (Misfit misfit) = (refl, refl)
early asked now Memory = (None, inl refl, (refl, refl))

-- the same, of a result
pub notes-early : {X : Type 0} (lines_of : X → Option LiveLines) (asked : Option ℕ)
    (before after : SinkAt) (failed : Bool) (result : Result X Refusal) → IsErr result
    → after ≡ before → failed ≡ false → NotesLive lines_of asked before after failed result
notes-early lines_of asked before after failed (Ok x) refused same well = absurd cc
notes-early lines_of asked before after failed (Err refusal) refused same well = record {
  told = tt;
  refused =
      subst (λ (s : SinkAt). RefusedLive asked before s failed refusal) (sym same)
      (subst (λ (b : Bool). RefusedLive asked before before b refusal) (sym well)
      (early asked before refusal));
}

-- want of memory after the lines that are asked for
pub notes-late : {X : Type 0} (lines_of : X → Option LiveLines) (asked : Option ℕ)
    (lines : Option LiveLines) (before after : SinkAt) (failed : Bool) (result : Result X Refusal)
    → IsErrAnd result (λ refusal. refusal ≡ Memory) → AreAsked asked lines
    → TakesLive lines before after failed → NotesLive lines_of asked before after failed result
notes-late lines_of asked lines before after failed (Ok x) is same takes = absurd is
notes-late lines_of asked lines before after failed (Err refusal) is same takes = record {
  told = tt;
  refused = subst (RefusedLive asked before after failed) (sym is) (lines, inr same, takes);
}

-- a refusal that is passed on
pub notes-passed : {X Y : Type 0} (lines_of : X → Option LiveLines) (lines_of' : Y → Option LiveLines)
    (asked : Option ℕ) (before after : SinkAt) (failed : Bool) (refusal : Refusal)
    (result : Result Y Refusal) → IsErrAnd result (λ r. r ≡ refusal)
    → NotesLive lines_of asked before after failed (Err refusal)
    → NotesLive lines_of' asked before after failed result
notes-passed lines_of lines_of' asked before after failed refusal (Ok y) is noted = absurd is
notes-passed lines_of lines_of' asked before after failed refusal (Err other) is noted = record {
  told = tt;
  refused = subst (RefusedLive asked before after failed) (sym is) noted.refused;
}

-- what is so whatever the result is
pub on_ok : {T E P : Type 0} (result : Result T E) → P → OnOk result P
on_ok (Ok x) is = is
on_ok (Err fault) is = tt

pub on_err : {T E P : Type 0} (result : Result T E) → P → OnErr result P
on_err (Ok x) is = tt
on_err (Err fault) is = is

-- the lines of as many positions, and as many
pub tells-same : (n n' times times' before after : ℕ) (old new : Option (List ℕ)) (failed : Bool)
    → n ≡ n' → times ≡ times' → TellsRun n times before after old new failed
    → TellsRun n' times' before after old new failed
tells-same n n' times times' before after old new failed same often tells =
    subst (λ (m : ℕ). TellsRun m times' before after old new failed) same
    (subst (λ (t : ℕ). TellsRun n t before after old new failed) often tells)

-- the lines at a refusal
pub refused-lines : (asked : Option ℕ) (before after : SinkAt) (failed : Bool) (refusal : Refusal)
    → RefusedLive asked before after failed refusal
    → (lines : Option LiveLines) × ((lines ≡ None) ⊎ AreAsked asked lines)
    × TakesLive lines before after failed
refused-lines asked before after failed Words refused = (None, inl refl, refused)
refused-lines asked before after failed (CannotRead name) refused = (None, inl refl, refused)
refused-lines asked before after failed (TooLarge name) refused = (None, inl refl, refused)
refused-lines asked before after failed (BadText name fault) refused = (None, inl refl, refused)
refused-lines asked before after failed (BadPlan name fault) refused = (None, inl refl, refused)
refused-lines asked before after failed (Cycle ring) refused = (None, inl refl, refused)
refused-lines asked before after failed (BadList fault) refused = (None, inl refl, refused)
refused-lines asked before after failed (Misfit misfit) refused = (None, inl refl, refused)
refused-lines asked before after failed Memory refused = refused

-- how many lines there are before the last one
abbrev times_of : Option LiveLines → Option ℕ
times_of lines = option_map (λ (l : LiveLines). l.times) lines

-- the lines that are asked for are so many
pub asked-lines : (asked : Option ℕ) (positions : ℕ) → AreAsked asked (lines_for asked positions)
asked-lines None positions = refl
asked-lines (Some times) positions = refl

-- an answer has the lines that its command asks for
pub printed-asked : (command : Command) (answer : Answer) → IsPrintedBy command answer
    → AreAsked (live_asked command) answer.live
printed-asked (Schedule said) answer printed =
    subst (λ (a : Answer). AreAsked said.live a.live) (sym printed.shown)
    (asked-lines said.live (activity_count printed.project))
printed-asked (Parallel said) answer printed = ap (λ (a : Answer). times_of a.live) printed.shown
printed-asked (Sample said) answer printed =
    subst (λ (a : Answer). AreAsked (live_shown said.shown) a.live) (sym printed.shown)
    (asked-lines (live_shown said.shown) (activity_count printed.project))
printed-asked (Check said) answer printed = ap (λ (a : Answer). times_of a.live) printed.2
printed-asked (Convert said) answer printed = ap (λ (a : Answer). times_of a.live) printed.2
printed-asked (Windows said) answer printed = ap (λ (a : Answer). times_of a.live) printed.2
printed-asked (Trial said) answer printed = ap (λ (a : Answer). times_of a.live) printed

-- the same, by the options of the words
pub options-asked : (options : Option Options) (answer : Answer)
    → IsSomeAnd options (λ o. IsPrintedBy o.command answer) → AreAsked (asked_by options) answer.live
options-asked None answer printed = absurd printed
options-asked (Some options) answer printed = printed-asked options.command answer printed

-- lines of which none is asked for are none
no-lines : (lines : Option LiveLines) → times_of lines ≡ None → lines ≡ None
no-lines None same = refl
no-lines (Some lines) same = absurd cc

-- what a command tells that asks for no lines
pub notes-quiet : (command : Command) (now : SinkAt) (failed : Bool) (result : Result Made Refusal)
    → failed ≡ false → live_asked command ≡ None
    → IfOk result (λ made. IsPrintedBy command (answer_view made))
    → NotesLive (λ (made : Made). (answer_view made).live) (live_asked command) now now failed result
notes-quiet command now failed (Ok made) well none printed =
    let lines = no-lines (answer_view made).live
    (printed-asked command (answer_view made) printed ∙ none) in
    record {
      told = subst (λ (l : Option LiveLines). TakesLive l now now failed) (sym lines) (refl, well);
      refused = tt;
    }
notes-quiet command now failed (Err refusal) well none printed =
    notes-early (λ (made : Made). (answer_view made).live) (live_asked command) now now failed
    (Err refusal) refl refl well

-- an answer that tells a violation has no lines
pub violated-quiet : (options : Option Options) (answer : Answer)
    → IsSomeAnd options (λ o. IsPrintedBy o.command answer) → answer.violated ≡ true
    → answer.live ≡ None
violated-quiet None answer printed violated = absurd printed
violated-quiet (Some options) answer printed violated = by_command options.command printed
  where
    none_told : answer.violated ≡ false → answer.live ≡ None
    none_told same = absurd (true-is_not_false (sym violated ∙ same))

    by_command : (command : Command) → IsPrintedBy command answer → answer.live ≡ None
    by_command (Schedule said) printed = none_told (ap (λ (a : Answer). a.violated) printed.shown)
    by_command (Parallel said) printed = none_told (ap (λ (a : Answer). a.violated) printed.shown)
    by_command (Sample said) printed = none_told (ap (λ (a : Answer). a.violated) printed.shown)
    by_command (Check said) printed = ap (λ (a : Answer). a.live) printed.2
    by_command (Convert said) printed = none_told (ap (λ (a : Answer). a.violated) printed.2)
    by_command (Windows said) printed = none_told (ap (λ (a : Answer). a.violated) printed.2)
    by_command (Trial said) printed = none_told (ap (λ (a : Answer). a.violated) printed)
