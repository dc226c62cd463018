use Rattle.std.proofs.Common.{length, ap, arith}
use Rattle.rc_instance.proofs.instance.Instance.successor.Goals as goal

pub returns-clause-within : goal.returns-clause-within
returns-clause-within c =
    c.successors.ensures.within.within c.args.index 0 (omega (arith, ap length c.successors.ensures.value))
