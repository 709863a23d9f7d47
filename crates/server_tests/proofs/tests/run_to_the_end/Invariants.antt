use Rattle.server_tests.proofs.tests.run_to_the_end.Given as goal

-- the ledger of the count of comparisons, which has one share
abbrev pub ghosts-run : goal.ghosts-run
ghosts-run g a = record { name = a.blank.name; parts = 1 }
