use Rattle.loopback_run.proofs.exchange.exchange.Goals as goal

-- a new server keeps no client
pub serve_to_the_end-finish-requires-clause-table : goal.serve_to_the_end-finish-requires-clause-table
serve_to_the_end-finish-requires-clause-table c = c.in_ok-server.ensures.table _
