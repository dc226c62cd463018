-- The words of a violation, and the line that a check writes.
use Rattle.std.specs.Prelude.{ℕ, List, ◌++◌, codes, Option, Some, None}
use Rattle.std.specs.Fmt.{decimal}
use Rattle.rc_instance.specs.FaultWords.{memory_words}
use Rattle.schedule_check.specs.declared.check_fault.CheckFault.{CheckFault}
use Rattle.schedule_check.specs.declared.check_fault.CheckFault.TheVariants.{Violated, Memory}
use Rattle.schedule_check.specs.declared.violation.Violation.{Violation}
use Rattle.schedule_check.specs.declared.violation.Violation.TheVariants.{Unknown, Twice, Missing, BeforePredecessor, OverCapacity}

-- what a violation is called
abbrev pub violation_words : Violation → List ℕ
violation_words (Unknown a) = codes "violation: activity " ++ decimal a ++ codes " is unknown"
violation_words (Twice a) = codes "violation: activity " ++ decimal a ++ codes " comes twice"
violation_words (Missing a) = codes "violation: activity " ++ decimal a ++ codes " is missing"
violation_words (BeforePredecessor b a) =
    codes "violation: activity " ++ decimal b ++ codes " starts before predecessor " ++ decimal a
    ++ codes " ends"
violation_words (OverCapacity k p used capacity) =
    codes "violation: resource " ++ decimal k ++ codes " is used " ++ decimal used ++ codes " of "
    ++ decimal capacity
    ++ codes " in period " ++ decimal p

-- why a check gave no makespan
abbrev pub check_fault_words : CheckFault → List ℕ
check_fault_words (Violated violation) = violation_words violation
check_fault_words Memory = memory_words

-- the line of a plan with this first violation, or without one and with this makespan
abbrev pub check_line : Option Violation → ℕ → List ℕ
check_line None makespan = codes "ok makespan " ++ decimal makespan ++ codes "\n"
check_line (Some violation) makespan = violation_words violation ++ codes "\n"
