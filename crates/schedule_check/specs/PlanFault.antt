-- What the faults of a plan's text say.
use Rattle.std.specs.Prelude.{ℕ, List, ◌++◌, codes}
use Rattle.std.specs.Fmt.{decimal}
use Rattle.rc_instance.specs.FaultWords.{memory_words}
use Rattle.schedule_check.specs.declared.plan_fault.PlanFault.{PlanFault}
use Rattle.schedule_check.specs.declared.plan_fault.PlanKind.{PlanKind}
use Rattle.schedule_check.specs.declared.plan_fault.PlanKind.TheVariants.{NotHeader, TooFewFields, NotANumber, NumberTooLarge, Memory}

-- the words of a kind
abbrev pub plan_kind_words : PlanKind → List ℕ
plan_kind_words NotHeader = codes "not a header"
plan_kind_words TooFewFields = codes "too few fields"
plan_kind_words NotANumber = codes "not a number"
plan_kind_words NumberTooLarge = codes "number too large"
plan_kind_words Memory = memory_words

-- a fault: its kind, and the number of its record
abbrev pub plan_fault_words : PlanFault → List ℕ
plan_fault_words fault = plan_kind_words fault.kind ++ codes " in record " ++ decimal fault.row
