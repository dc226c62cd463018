use Rattle.std.proofs.Common.{◌/◌, ◌∙◌, arith}
use Rattle.book_rule.specs.Layout.{blocks}
use Rattle.book_search.proofs.FloorLaws.{kept_floor}
use Rattle.book_search.proofs.floors.store_whole.Goals as goal

pub block_end-requires : goal.block_end-requires
unfolding blocks
block_end-requires c = omega (arith, c.requires.period)

pub store_floor-requires-clause-block : goal.store_floor-requires-clause-block
unfolding blocks
store_floor-requires-clause-block c = omega (arith, c.requires.period)

pub store_floor-requires-clause-kept : goal.store_floor-requires-clause-kept
store_floor-requires-clause-kept c = kept_floor c.args.book.now.listing c.args.pass.now.view
    c.args.floors.now (c.args.period / 32) c.args.index c.requires.index.1 c.requires.block
    (c.if-floors-index.true ∙ c.block_end.ensures.value) c.requires.kept
