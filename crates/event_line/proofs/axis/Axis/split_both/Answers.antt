use Rattle.event_line.proofs.RowLaws.{refined_trans, stands_still}
use Rattle.event_line.proofs.axis.Axis.split_both.Goals as goal

pub split-first_node-requires-clause-stands : goal.split-first_node-requires-clause-stands
split-first_node-requires-clause-stands c =
    let made = c.split_end-end_node.ensures in
    stands_still c.args.self.now.chain.periods c.split_end-end_node.new.self.chain.periods
    c.args.span.first c.args.span.start c.split_end-end_node.result c.args.end made.refined.longer
    made.others made.at c.requires.end.0 c.requires.first

pub returns-clause-refined : goal.returns-clause-refined
returns-clause-refined c =
    let old = c.args.self.now in
    let now = c.split_end-end_node.new.self in
    let new = c.split-first_node.new.self in
    refined_trans old.chain.periods old.free.rows now.chain.periods now.free.rows new.chain.periods
    new.free.rows c.split_end-end_node.ensures.refined c.split-first_node.ensures.refined
