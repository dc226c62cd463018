use Rattle.std.proofs.Common.{◌≡◌, ◌≤◌, length, ap, ◌∙◌, arith}
use Rattle.rc_instance.specs.Project.{Project, activity_count, duration}
use Rattle.rc_instance.proofs.ScheduleLaws.{finish-le-makespan}
use Rattle.fwd_back.proofs.next.next_moved.Goals as goal

pub overflow_add-finish : goal.overflow_add-finish
overflow_add-finish c =
    let project = c.args.line.now.project in
    let a = c.loop-activity.activity in
    let count : c.count-activity-end.result ≡ activity_count project =
    c.count-activity-end.ensures.value ∙ ap activity_count c.instance-instance.ensures in
    let long : c.duration.result ≡ duration project a =
    c.duration.ensures.value ∙ ap (λ (p : Project). duration p a) c.instance-instance.ensures in
    let inside : a ≤ length c.args.present.now = omega arith in
    omega (
      arith,
      c.start.ensures,
      finish-le-makespan project c.args.present.now a c.loop-activity.auto.activity inside,
    )
