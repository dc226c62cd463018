-- The CSV of a feasible schedule passes the check.
use Rattle.std.proofs.Common.{ℕ, ◌≤◌, List, refl, arith}
use Rattle.rc_instance.specs.declared.limits.TheConstants.{MAX_HORIZON}
use Rattle.rc_instance.specs.Project.{Project}
use Rattle.rc_instance.specs.Calendar.{IsWithinLimits}
use Rattle.rc_instance.specs.Misfit.{HasNoMisfit}
use Rattle.rc_instance.specs.Order.{IsFeasibleList}
use Rattle.rc_instance.specs.Schedule.{IsFeasible, bookings_of, makespan, serial_schedule}
use Rattle.rc_instance.proofs.LimitLaws.{last_change-le}
use Rattle.rc_instance.proofs.FeasibleLaws.{IsFeasible-serial_schedule, makespan-serial_schedule-le-horizon}
use Rattle.gantt_table.specs.Csv.{csv_text}
use Rattle.schedule_check.specs.Laws.{IsAccepted}
use Rattle.schedule_check.proofs.CsvLaws.{bookings_small, read_plan_of-csv}
use Rattle.schedule_check.proofs.FeasibleLaws.{no_violation_of_feasible}

-- the CSV of a feasible schedule is accepted with its makespan
pub accepted_if_feasible : (project : Project) (starts : List ℕ) → IsWithinLimits project
    → IsFeasible project starts
    → makespan project starts ≤ MAX_HORIZON
    → IsAccepted project (csv_text project starts) (makespan project starts)
accepted_if_feasible project starts limits feasible ends = record {
  plan = bookings_of starts;
  read = read_plan_of-csv project starts (bookings_small project starts
      (omega (arith, feasible.count, limits.activities)) ends);
  kept = no_violation_of_feasible project starts feasible;
  ends = refl;
}

-- so is that of the serial schedule of a feasible list
pub accepted_if_serial : (project : Project) (order : List ℕ) → IsWithinLimits project
    → HasNoMisfit project
    → IsFeasibleList project order
    → IsAccepted project (csv_text project (serial_schedule project order))
    (makespan project (serial_schedule project order))
accepted_if_serial project order limits none list =
    accepted_if_feasible project (serial_schedule project order) limits
    (IsFeasible-serial_schedule project order none list)
    (omega (
      arith,
      makespan-serial_schedule-le-horizon project order list,
      last_change-le project limits,
      limits.durations,
    ))
