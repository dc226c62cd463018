-- What a check of a plan answers.
use Rattle.std.specs.Prelude.{◌≡◌, Option, None, Some, Result, Ok, Err}
use Rattle.schedule_check.specs.declared.violation.Violation.{Violation}
use Rattle.schedule_check.specs.declared.check_fault.CheckFault.{CheckFault}
use Rattle.schedule_check.specs.declared.check_fault.CheckFault.TheVariants.{Violated, Memory}

-- what was refused is the first violation, unless memory ran out
abbrev pub Refuses : Option Violation → CheckFault → Type 0
Refuses first (Violated violation) = first ≡ Some violation
Refuses first Memory = Unit {0}

-- where there is no violation the answer has P, else it is the first one, unless memory ran out
abbrev pub Answers : {T : Type 0} → Option Violation → (T → Type 0) → Result T CheckFault → Type 0
Answers first P (Ok x) = (first ≡ None) × P x
Answers first P (Err fault) = Refuses first fault
