use Rattle.condition_tests.proofs.chains.first_letters.Goals as goal

pub letters-requires-clause-right : goal.letters-requires-clause-right
letters-requires-clause-right g c = c.in_ok-conds.ensures.right _
