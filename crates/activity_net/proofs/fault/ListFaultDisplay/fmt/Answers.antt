use Rattle.std.proofs.Common.{append_assoc}
use Rattle.activity_net.proofs.fault.ListFaultDisplay.fmt.Goals as goal

pub returns-in-Length-clause-writes : goal.returns-in-Length-clause-writes
returns-in-Length-clause-writes g c plain ok =
    rw c.in-Length.is (simp append_assoc (c.write.ensures.writes plain ok))

pub returns-in-TooEarly-clause-writes : goal.returns-in-TooEarly-clause-writes
returns-in-TooEarly-clause-writes g c plain ok =
    rw c.in-TooEarly.is (simp append_assoc (c.write-in-TooEarly.ensures.writes plain ok))
