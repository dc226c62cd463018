use Rattle.std.proofs.Common.{arith}
use Rattle.book_table.proofs.BookLaws.{sizes_are}
use Rattle.book_table.proofs.book.Book.capacity_word.Goals as goal

pub room_word-requires : goal.room_word-requires
room_word-requires c =
    let sizes = sizes_are c.self.inside c.args.self.now c.self.view_is c.self.invariant in
    omega (arith, sizes.narrow, c.requires)
