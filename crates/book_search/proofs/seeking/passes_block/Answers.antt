use Rattle.std.proofs.Common.{arith}
use Rattle.book_rule.specs.Layout.{blocks}
use Rattle.book_search.proofs.seeking.passes_block.Goals as goal

pub load_floor-requires-clause-block : goal.load_floor-requires-clause-block
unfolding blocks
load_floor-requires-clause-block c = omega (arith, c.requires.period)
