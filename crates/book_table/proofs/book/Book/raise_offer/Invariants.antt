use Rattle.book_table.proofs.book.Book.raise_offer.Given as goal

abbrev pub ghosts-raise : goal.ghosts-raise
ghosts-raise a = record { place = a.position; index = 0 }
