use Rattle.std.proofs.Common.{◌≡◌, ◌⊎◌, ◌∙◌, List, Result, Err, ap, sym, subst}
use Rattle.std.proofs.lemmas.Result.{err_from_is_err_and}
use Rattle.rc_instance.specs.Usage.{Booking}
use Rattle.schedule_check.specs.declared.plan_fault.PlanFault.{PlanFault}
use Rattle.schedule_check.specs.Reading.{out_of_memory, plan_of, read_plan_of}
use Rattle.schedule_check.proofs.reading.read_plan.Goals as goal

-- a fault of a text, or want of memory
abbrev IsRefused : PlanFault → Result (List Booking) PlanFault → Type 0
IsRefused fault read = (read ≡ Err fault) ⊎ (fault ≡ out_of_memory)

pub returns-in_err-read_header : goal.returns-in_err-read_header
unfolding read_plan_of
returns-in_err-read_header c =
    let p = err_from_is_err_and c.from_residual.result c.from_residual.ensures.1 in
    let fault = c.in_err-read_header.field-0.0 in
    rw (p.1, p.2) (subst (IsRefused fault) (ap plan_of c.reader_of-reader.ensures.left)
    c.in_err-read_header.ensures.refused)

pub returns-in_err-plan : goal.returns-in_err-plan
unfolding read_plan_of
returns-in_err-plan c =
    let p = err_from_is_err_and c.from_residual-in_err-plan.result
    c.from_residual-in_err-plan.ensures.1 in
    let fault = c.in_err-plan.field-0.0 in
    rw (p.1, p.2) (subst (IsRefused fault)
    (sym c.in_ok-read_header.ensures.header ∙ ap plan_of c.reader_of-reader.ensures.left)
    c.in_err-plan.ensures)

pub returns : goal.returns
unfolding read_plan_of
returns c =
    sym (ap plan_of c.reader_of-reader.ensures.left)
    ∙ (c.in_ok-read_header.ensures.header ∙ c.in_ok-plan.ensures)
