use Rattle.std.proofs.Common.{arith}
use Rattle.book_table.proofs.BookLaws.{sizes_are}
use Rattle.book_rule.specs.Layout.{blocks}
use Rattle.book_table.proofs.book.Book.blocks.Goals as goal

pub overflow_add-result : goal.overflow_add-result
overflow_add-result c =
    let sizes = sizes_are c.self.inside c.args.self.now c.self.view_is c.self.invariant in
    omega (arith, sizes.periods, sizes.short)

pub returns : goal.returns
unfolding blocks
returns c =
    let sizes = sizes_are c.self.inside c.args.self.now c.self.view_is c.self.invariant in
    omega (arith, sizes.periods)
