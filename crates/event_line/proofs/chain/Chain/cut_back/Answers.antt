use Rattle.std.proofs.Common.{arith}
use Rattle.event_line.proofs.ChainLaws.{nodes_same}
use Rattle.event_line.proofs.chain.Chain.cut_back.Goals as goal

pub returns-else-len : goal.returns-else-len
returns-else-len c =
    nodes_same c.args.self.now c.args.other.now c.requires.longer
    (omega (arith, c.if-len.false, c.len.ensures.value, c.len-2.ensures.value))
