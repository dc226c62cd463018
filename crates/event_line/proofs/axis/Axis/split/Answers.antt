use Rattle.std.proofs.Common.{ap}
use Rattle.event_line.specs.Chain.{Nodes}
use Rattle.event_line.proofs.RowLaws.{refined_same, refined_more}
use Rattle.event_line.proofs.axis.Axis.split.Goals as goal

pub returns-then-period-clause-refined : goal.returns-then-period-clause-refined
returns-then-period-clause-refined c = refined_same _ _

pub returns-clause-refined : goal.returns-clause-refined
returns-clause-refined c =
    let old = c.args.self.now in
    let periods = ap (λ (n : Nodes). n.periods) c.insert-node.ensures.value in
    rw periods (refined_more old.chain.periods old.free.rows c.copy.new.self.rows c.args.at
    c.args.period c.insert-node.result c.requires.stands c.insert-node.ensures.node
    c.copy.ensures.row c.copy.ensures.others)
