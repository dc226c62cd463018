use Rattle.std.proofs.Common.{arith}
use Rattle.book_table.proofs.BookLaws.{sizes_are}
use Rattle.book_table.proofs.book.Book.words.Goals as goal

pub returns-clause-few : goal.returns-clause-few
returns-clause-few c =
    let sizes = sizes_are c.self.inside c.args.self.now c.self.view_is c.self.invariant in
    omega (arith, sizes.columns, sizes.narrow)
