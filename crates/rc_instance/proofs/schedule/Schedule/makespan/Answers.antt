use Rattle.std.proofs.Common.{◌≡◌, ◌+◌, ◌-◌, ℕ, ap, drop, arith}
use Rattle.rc_instance.specs.Usage.{last_finish}
use Rattle.rc_instance.specs.Schedule.{bookings_from}
use Rattle.rc_instance.proofs.ScheduleLaws.{last_finish_first}
use Rattle.rc_instance.proofs.schedule.Schedule.makespan.Goals as goal

pub loop-activity-preserved : goal.loop-activity-preserved
loop-activity-preserved c =
    let a = c.loop-activity.activity in
    let project = c.args.instance.now in
    let step = last_finish_first project c.args.self.now a (omega arith) (omega arith) in
    let back : a + 1 - 1 ≡ a = omega arith in
    let rest = ap (λ (i : ℕ). last_finish project (bookings_from (a + 1) (drop i c.args.self.now))) back in
    omega (arith, c.duration.ensures.value)
