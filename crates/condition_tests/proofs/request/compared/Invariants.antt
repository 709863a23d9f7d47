use Rattle.condition_tests.proofs.request.compared.Given as goal

abbrev pub ghosts-counted : goal.ghosts-counted
ghosts-counted a = record { name = a.blank.name; parts = 1 }
