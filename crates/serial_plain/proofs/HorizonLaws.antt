-- How long an instance within the limits can take.
use Rattle.std.proofs.Common.{ℕ, ◌≤◌, List, arith}
use Rattle.rc_instance.specs.declared.limits.TheConstants.{MAX_HORIZON}
use Rattle.rc_instance.specs.Project.{Project, horizon}
use Rattle.rc_instance.specs.Calendar.{IsWithinLimits}
use Rattle.rc_instance.specs.Schedule.{makespan}
use Rattle.rc_instance.proofs.LimitLaws.{last_change-le}

-- its horizon is at most the greatest one
pub horizon-le : (project : Project) → IsWithinLimits project → horizon project ≤ MAX_HORIZON
horizon-le project limits =
    let durations = limits.durations in omega (arith, last_change-le project limits)

-- so is a schedule that ends by its horizon
pub makespan_by_horizon : (project : Project) (starts : List ℕ) → IsWithinLimits project
    → makespan project starts ≤ horizon project → makespan project starts ≤ MAX_HORIZON
makespan_by_horizon project starts limits within = omega (arith, horizon-le project limits)
