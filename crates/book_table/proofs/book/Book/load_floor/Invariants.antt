use Rattle.book_table.proofs.book.Book.load_floor.Given as goal

abbrev pub ghosts-floor : goal.ghosts-floor
ghosts-floor a = record { place = a.block; index = a.index }
