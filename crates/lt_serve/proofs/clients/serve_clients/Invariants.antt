use Rattle.lt_serve.proofs.clients.serve_clients.Given as goal

abbrev pub ghosts-serve_counted : goal.ghosts-serve_counted
ghosts-serve_counted g a = record { name = a.blank.name; parts = 1 }
