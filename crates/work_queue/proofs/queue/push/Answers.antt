use Rattle.std.proofs.Common.{sym, ap}
use Rattle.work_queue.proofs.RuleLaws.{pushes, learns}
use Rattle.work_queue.proofs.queue.push.Goals as goal

pub push_as-requires-clause-rule : goal.push_as-requires-clause-rule
push_as-requires-clause-rule g c = (
  pushes _ _ _ _ (ap (λ v. v.parts) c.requires.next) (sym (ap (λ v. v.pushed) c.requires.next)),
  learns _ _,
)
