use Rattle.condition_tests.proofs.chains.loaded_letters.Given as goal

abbrev pub ghosts-first_letters : goal.ghosts-first_letters
ghosts-first_letters a = record { name = a.blank.name; parts = 1 }
