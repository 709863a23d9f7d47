use Rattle.loopback_run.proofs.exchange.serve_to_the_end.Given as goal

-- the ledger of the count of comparisons, which has one share
abbrev pub ghosts-serve : goal.ghosts-serve
ghosts-serve g a = record { name = a.blank.name; parts = 1 }
