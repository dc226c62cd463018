-- What is refused as the first of two violations.
use Rattle.std.proofs.Common.{◌≡◌, Option, None, ap, ◌∙◌}
use Rattle.rc_instance.specs.Lists.{or_else}
use Rattle.schedule_check.specs.declared.check_fault.CheckFault.{CheckFault}
use Rattle.schedule_check.specs.declared.check_fault.CheckFault.TheVariants.{Violated, Memory}
use Rattle.schedule_check.specs.declared.violation.Violation.{Violation}
use Rattle.schedule_check.specs.Checking.{Refuses}

-- what is refused as the first of two is the first of both
pub Refuses-first : (first second : Option Violation) (fault : CheckFault) → Refuses first fault
    → Refuses (or_else first second) fault
Refuses-first first second (Violated violation) is = ap (λ x. or_else x second) is
Refuses-first first second Memory is = tt

-- so is what is refused as the second, where there is no first
pub Refuses-second : (first second : Option Violation) (fault : CheckFault) → first ≡ None
    → Refuses second fault
    → Refuses (or_else first second) fault
Refuses-second first second (Violated violation) none is = ap (λ x. or_else x second) none ∙ is
Refuses-second first second Memory none is = tt

-- where there is neither, there is none
pub none_of_both : (first second : Option Violation) → first ≡ None → second ≡ None
    → or_else first second ≡ None
none_of_both first second none other = ap (λ x. or_else x second) none ∙ other
