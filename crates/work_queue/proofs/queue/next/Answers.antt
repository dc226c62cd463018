use Rattle.work_queue.proofs.RuleLaws.{takes, learns}
use Rattle.work_queue.proofs.queue.next.Goals as goal

pub pop_as-requires-clause-rule : goal.pop_as-requires-clause-rule
pop_as-requires-clause-rule g c = (takes _ _ c.requires.active, learns _ _)
