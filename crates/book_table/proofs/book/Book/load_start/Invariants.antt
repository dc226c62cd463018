use Rattle.book_table.proofs.book.Book.load_start.Given as goal

abbrev pub ghosts-start : goal.ghosts-start
ghosts-start a = record { place = a.position; index = 0 }
