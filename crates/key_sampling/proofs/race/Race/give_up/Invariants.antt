use Rattle.key_sampling.proofs.race.Race.give_up.Given as goal

abbrev pub ghosts-look : goal.ghosts-look
ghosts-look a = record { limit = a.limit }
