use Rattle.book_table.proofs.book.Book.load_offer.Given as goal

abbrev pub ghosts-adopt : goal.ghosts-adopt
ghosts-adopt a = record { place = a.position; index = 0 }
