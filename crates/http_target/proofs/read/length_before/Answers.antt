use Rattle.std.proofs.Common.{◌∙◌, eqb, rules, tests}
use Rattle.std.proofs.lemmas.Iterator.{YieldsList-from_slice}
use Rattle.std.proofs.lemmas.Iterator.Search.{position_from_yields_List}
use Rattle.http_target.proofs.MarkLemmas.{position_or_length}
use Rattle.http_target.proofs.read.length_before.Goals as goal

pub returns-clause-value : goal.returns-clause-value
returns-clause-value c =
    let mark = c.args.mark in
    let found = position_from_yields_List (λ b. eqb b mark) _ _ c.position.result c.position.ensures.ran (YieldsList-from_slice _ c.iter.ensures.rest) (λ x b q k. search (rules, tests)) in
    c.unwrap_or.ensures ∙ position_or_length (λ b. eqb b mark) _ _ found
