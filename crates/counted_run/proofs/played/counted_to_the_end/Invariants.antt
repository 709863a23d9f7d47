use Rattle.counted_run.proofs.played.counted_to_the_end.Given as goal

-- the ledger of the count of comparisons, which has one share
abbrev pub ghosts-counted : goal.ghosts-counted
ghosts-counted g a = record { name = a.blank.name; parts = 1 }
