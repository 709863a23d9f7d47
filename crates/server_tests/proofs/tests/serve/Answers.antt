use Rattle.server_tests.proofs.tests.serve.Goals as goal

-- a new server keeps no client
pub run_to_the_end-requires-clause-table : goal.run_to_the_end-requires-clause-table
run_to_the_end-requires-clause-table g c = c.in-Ok.ensures.table _
