use Rattle.lt_commands.proofs.playing.serve.Given as goal

abbrev pub ghosts-serve_counted : goal.ghosts-serve_counted
ghosts-serve_counted a = record { name = a.blank.name; parts = 1 }
