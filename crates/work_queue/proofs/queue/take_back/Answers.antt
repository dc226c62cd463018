use Rattle.work_queue.proofs.RuleLaws.{merges}
use Rattle.work_queue.proofs.queue.take_back.Goals as goal

pub absorb-requires-clause-rule : goal.absorb-requires-clause-rule
absorb-requires-clause-rule c = merges _ _ _ _ c.requires.parts
