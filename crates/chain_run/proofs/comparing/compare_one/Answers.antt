use Rattle.chain_run.proofs.comparing.compare_one.Goals as goal

pub settings_now-requires-clause-right : goal.settings_now-requires-clause-right
settings_now-requires-clause-right g c = c.in_ok-conds.ensures.right _
