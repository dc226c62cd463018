use Rattle.std.proofs.Common.{append_assoc}
use Rattle.schedule_check.proofs.violation.ViolationDisplay.fmt.Goals as goal

pub returns-in-BeforePredecessor-clause-writes : goal.returns-in-BeforePredecessor-clause-writes
returns-in-BeforePredecessor-clause-writes g c plain ok =
    rw c.in-BeforePredecessor.is
    (simp append_assoc (c.write-in-BeforePredecessor.ensures.writes plain ok))

pub returns-in-OverCapacity-clause-writes : goal.returns-in-OverCapacity-clause-writes
returns-in-OverCapacity-clause-writes g c plain ok =
    rw c.in-OverCapacity.is (simp append_assoc (c.write-in-OverCapacity.ensures.writes plain ok))
