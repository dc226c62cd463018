use Rattle.event_line.proofs.RowLaws.{refined_same}
use Rattle.event_line.proofs.axis.Axis.split_end.Goals as goal

pub returns-then-period-end-clause-refined : goal.returns-then-period-end-clause-refined
returns-then-period-end-clause-refined c = refined_same _ _
