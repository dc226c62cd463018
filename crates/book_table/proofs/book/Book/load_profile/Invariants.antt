use Rattle.book_table.proofs.book.Book.load_profile.Given as goal

abbrev pub ghosts-profile : goal.ghosts-profile
ghosts-profile a = record { place = a.period; index = a.index }
