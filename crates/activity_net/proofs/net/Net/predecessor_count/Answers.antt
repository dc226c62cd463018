use Rattle.std.proofs.Common.{arith}
use Rattle.rc_instance.proofs.LimitLaws.{rising_length}
use Rattle.activity_net.proofs.net.Net.predecessor_count.Goals as goal

pub overflow_cast-result : goal.overflow_cast-result
overflow_cast-result c =
    omega (
      arith,
      rising_length _ _ c.predecessors.ensures.within,
      c.predecessors.ensures.limits.activities,
    )
