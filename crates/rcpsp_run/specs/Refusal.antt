-- Refusals: how they end a run, and what they say.
use Rattle.std.specs.Prelude.{ℕ, List, ◌++◌, codes}
use Rattle.std.specs.Fmt.{decimal}
use Rattle.rc_instance.specs.declared.limits.TheConstants.{MAX_FILE_BYTES}
use Rattle.rc_instance.specs.FaultWords.{memory_words, misfit_words}
use Rattle.rc_edge.specs.TextFault.{fault_words}
use Rattle.activity_net.specs.FaultWords.{list_words}
use Rattle.activity_net.specs.RingWords.{ring_words}
use Rattle.schedule_check.specs.PlanFault.{plan_fault_words}
use Rattle.rcpsp_run.specs.declared.status.Status.{Status}
use Rattle.rcpsp_run.specs.declared.status.Status.TheVariants as status
use Rattle.rcpsp_words.specs.declared.words.WordsFault.{WordsFault}
use Rattle.rcpsp_words.specs.declared.words.WordsFault.TheVariants as words_fault
use Rattle.rcpsp_run.specs.declared.refusal.Refusal.{Refusal}
use Rattle.rcpsp_run.specs.declared.refusal.Refusal.TheVariants.{Words, CannotRead, TooLarge, BadText, BadPlan, Cycle, BadList, Misfit, Memory}

-- how a run ends that is refused so
abbrev pub status_of : Refusal → Status
status_of Words = status.Words
status_of (CannotRead _) = status.ReadFault
status_of (TooLarge _) = status.TooLarge
status_of (BadText _ _) = status.BadText
status_of (BadPlan _ _) = status.BadText
status_of (Cycle _) = status.Cycle
status_of (BadList _) = status.BadList
status_of (Misfit _) = status.Misfit
status_of Memory = status.Memory

-- what words that are not understood, or no memory for them, come to
abbrev pub of_words_fault : WordsFault → Refusal
of_words_fault words_fault.Undefined = Words
of_words_fault words_fault.Memory = Memory

-- what the line says
abbrev pub refusal_words : Refusal → List ℕ
refusal_words Words = codes "words not understood"
refusal_words (CannotRead name) = codes "cannot read " ++ name
refusal_words (TooLarge name) = name ++ codes " is larger than " ++ decimal MAX_FILE_BYTES ++ codes " bytes"
refusal_words (BadText name fault) = name ++ codes ": " ++ fault_words fault
refusal_words (BadPlan name fault) = name ++ codes ": " ++ plan_fault_words fault
refusal_words (Cycle ring) = ring_words ring
refusal_words (BadList fault) = list_words fault
refusal_words (Misfit misfit) = misfit_words misfit
refusal_words Memory = memory_words

-- the whole line on the note
abbrev pub line_of : Refusal → List ℕ
line_of refusal = codes "rcpsp: " ++ refusal_words refusal ++ codes "\n"

-- the line where the output cannot be written
abbrev pub write_line : List ℕ
write_line = codes "rcpsp: cannot write\n"

-- the line where memory ran out
abbrev pub memory_line : List ℕ
memory_line = line_of Memory
