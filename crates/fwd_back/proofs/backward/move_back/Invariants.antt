use Rattle.std.proofs.Common.{◌≡◌, ◌-◌, length}
use Rattle.rc_instance.specs.Project.{activity_count}
use Rattle.rc_instance.specs.Schedule.{makespan}
use Rattle.fwd_back.proofs.PassLaws.{IsPassing}
use Rattle.fwd_back.proofs.backward.move_back.Given as goal

abbrev pub invariant-loop-activity : goal.invariant-loop-activity
invariant-loop-activity l = record {
  project : l.line.project ≡ l.list.network.project;
  end : l.end ≡ makespan l.line.project l.present;
  passing : IsPassing l.line l.list.order l.present l.marks l.starts;
}

abbrev pub decreases-loop-activity : goal.decreases-loop-activity
decreases-loop-activity l = activity_count l.line.project - length l.line.bookings
