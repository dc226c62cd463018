use Rattle.book_table.proofs.book.Book.claim_known.Given as goal

abbrev pub ghosts-claim_at : goal.ghosts-claim_at
ghosts-claim_at a = record { place = a.start; index = 0 }
