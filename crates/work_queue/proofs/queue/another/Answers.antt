use Rattle.work_queue.proofs.RuleLaws.{forks}
use Rattle.work_queue.proofs.queue.another.Goals as goal

pub another-requires-clause-rule : goal.another-requires-clause-rule
another-requires-clause-rule c = forks _ _ c.requires.parts
