use Rattle.std.proofs.Common.{arith}
use Rattle.book_table.proofs.BookLaws.{sizes_are}
use Rattle.book_rule.specs.Layout.{blocks}
use Rattle.book_table.proofs.book.Book.block_end.Goals as goal

pub overflow_mul-block : goal.overflow_mul-block
unfolding blocks
overflow_mul-block c =
    let sizes = sizes_are c.self.inside c.args.self.now c.self.view_is c.self.invariant in
    omega (arith, sizes.periods, sizes.short, c.requires)

pub overflow_add-block : goal.overflow_add-block
unfolding blocks
overflow_add-block c =
    let sizes = sizes_are c.self.inside c.args.self.now c.self.view_is c.self.invariant in
    omega (arith, sizes.periods, sizes.short, c.requires)

pub returns-clause-within : goal.returns-clause-within
unfolding blocks
returns-clause-within c =
    let sizes = sizes_are c.self.inside c.args.self.now c.self.view_is c.self.invariant in
    omega (arith, sizes.periods, sizes.short, c.requires)
