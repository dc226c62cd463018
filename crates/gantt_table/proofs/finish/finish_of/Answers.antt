use Rattle.std.proofs.Common.{arith}
use Rattle.rc_instance.proofs.ScheduleLaws.{finish-le-makespan}
use Rattle.gantt_table.proofs.finish.finish_of.Goals as goal

pub overflow_add-result : goal.overflow_add-result
overflow_add-result c =
    omega (
      arith,
      finish-le-makespan c.args.instance.now c.args.schedule.now c.args.activity,
      c.start.ensures,
      c.duration.ensures.value,
    )
