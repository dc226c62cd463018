-- The plan of the second text.
use Rattle.std.specs.Prelude.{ℕ, List, Result, Ok, Err}
use Rattle.rc_instance.specs.Usage.{Booking}
use Rattle.schedule_check.specs.declared.plan_fault.PlanFault.{PlanFault}
use Rattle.schedule_check.specs.Reading.{read_plan_of}
use Rattle.rcpsp_run.specs.declared.refusal.Refusal.{Refusal}
use Rattle.rcpsp_run.specs.declared.refusal.Refusal.TheVariants.{BadPlan}
use Rattle.rcpsp_run.specs.Steps.Text.{text_at}

-- what is read in the text of a plan, or that its text is bad
abbrev pub in_plan : {X : Type 0} → List ℕ → Result X PlanFault → Result X Refusal
in_plan name (Ok x) = Ok x
in_plan name (Err fault) = Err (BadPlan name fault)

-- the bookings of a plan, which is the second text
unfoldable pub plan_in : List ℕ → List (List ℕ) → Result (List Booking) Refusal
plan_in name texts = in_plan name (read_plan_of (text_at texts 1))
