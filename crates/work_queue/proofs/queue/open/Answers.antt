use Rattle.work_queue.proofs.RuleLaws.{begins}
use Rattle.work_queue.proofs.queue.open.Goals as goal

pub ruled-requires-clause-rule : goal.ruled-requires-clause-rule
ruled-requires-clause-rule c = begins
