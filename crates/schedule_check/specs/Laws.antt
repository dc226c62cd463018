-- The main laws of plans, each over all projects.
use Rattle.std.specs.Prelude.{◌≡◌, ◌↔◌, ℕ, ◌≤◌, List, length, map, None, Ok, Err}
use Rattle.rc_instance.specs.Lists.{numbers}
use Rattle.rc_instance.specs.Project.{Project, activity_count}
use Rattle.rc_instance.specs.Usage.{Booking, last_finish}
use Rattle.rc_instance.specs.Schedule.{IsFeasible, bookings_of, makespan, serial_schedule, start_of}
use Rattle.rc_instance.specs.Calendar.{IsWithinLimits}
use Rattle.rc_instance.specs.Misfit.{HasNoMisfit}
use Rattle.rc_instance.specs.Order.{IsFeasibleList}
use Rattle.rc_instance.specs.declared.limits.TheConstants.{MAX_ACTIVITIES, MAX_HORIZON}
use Rattle.gantt_table.specs.Csv.{csv_text}
use Rattle.schedule_check.specs.declared.plan_fault.PlanFault.{PlanFault}
use Rattle.schedule_check.specs.PlanRecords.{ArePlan, IsFirstFault}
use Rattle.schedule_check.specs.Reading.{plan_of, read_plan_of}
use Rattle.schedule_check.specs.Violation.{first_violation}

-- the start that bookings give to each activity, in order of number
abbrev pub starts_of : Project → List Booking → List ℕ
starts_of project bookings = map (start_of bookings) (numbers (activity_count project))

-- a plan without a violation is a feasible schedule, and its last finish is the makespan
abbrev pub PlanWithoutViolationIsFeasible : Type 0
PlanWithoutViolationIsFeasible = (project : Project) (bookings : List Booking)
    → first_violation project bookings ≡ None
    → IsFeasible project (starts_of project bookings)
    × (makespan project (starts_of project bookings) ≡ last_finish project bookings)

-- the bookings of a feasible schedule have no violation
abbrev pub FeasibleScheduleHasNoViolation : Type 0
FeasibleScheduleHasNoViolation = (project : Project) (starts : List ℕ)
    → IsFeasible project starts → first_violation project (bookings_of starts) ≡ None

-- records are read as bookings exactly where they give them, each for itself
abbrev pub PlanIsThatOfItsRecords : Type 0
PlanIsThatOfItsRecords = (records : List (List (List ℕ))) (bookings : List Booking)
    → (plan_of records ≡ Ok bookings) ↔ ArePlan records bookings

-- and they are refused exactly with the fault of the first that has one
abbrev pub FaultIsThatOfTheFirstRecord : Type 0
FaultIsThatOfTheFirstRecord = (records : List (List (List ℕ))) (fault : PlanFault)
    → (plan_of records ≡ Err fault) ↔ IsFirstFault records fault

-- the CSV of a schedule with small starts is read as its bookings, in order of number
abbrev pub CsvIsReadBack : Type 0
CsvIsReadBack = (project : Project) (starts : List ℕ)
    → length starts ≤ MAX_ACTIVITIES → makespan project starts ≤ MAX_HORIZON
    → read_plan_of (csv_text project starts) ≡ Ok (bookings_of starts)

-- a text is a plan that has no violation and ends at m
pub record IsAccepted (project : Project) (text : List ℕ) (m : ℕ) : Type 0 where
  pub plan : List Booking
  pub read : read_plan_of text ≡ Ok plan
  pub kept : first_violation project plan ≡ None
  pub ends : last_finish project plan ≡ m

-- the CSV of a feasible schedule is accepted with its makespan
abbrev pub CsvOfFeasibleIsAccepted : Type 0
CsvOfFeasibleIsAccepted = (project : Project) (starts : List ℕ)
    → IsWithinLimits project → IsFeasible project starts → makespan project starts ≤ MAX_HORIZON
    → IsAccepted project (csv_text project starts) (makespan project starts)

-- so is that of the serial schedule of a feasible list
abbrev pub CsvOfSerialIsAccepted : Type 0
CsvOfSerialIsAccepted = (project : Project) (order : List ℕ)
    → IsWithinLimits project → HasNoMisfit project → IsFeasibleList project order
    → IsAccepted project (csv_text project (serial_schedule project order))
    (makespan project (serial_schedule project order))
