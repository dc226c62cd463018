use Rattle.book_table.proofs.book.Book.begin_search.Given as goal

abbrev pub ghosts-begin : goal.ghosts-begin
ghosts-begin a = record { place = a.position; index = 0 }
