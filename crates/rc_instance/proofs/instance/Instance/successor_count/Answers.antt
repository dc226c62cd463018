use Rattle.std.proofs.Common.{arith}
use Rattle.rc_instance.proofs.LimitLaws.{rising_length}
use Rattle.rc_instance.proofs.instance.Instance.successor_count.Goals as goal

pub overflow_cast-result : goal.overflow_cast-result
overflow_cast-result c =
    omega (arith, rising_length _ _ c.successors.ensures.within, c.successors.ensures.limits.activities)
