use Rattle.std.proofs.Common.{◌∙◌, rules, tests}
use Rattle.std.proofs.lemmas.Iterator.{YieldsList-from_slice}
use Rattle.std.proofs.lemmas.Iterator.Search.{position_from_yields_List}
use Rattle.http_target.specs.Target.{ends_authority}
use Rattle.http_target.proofs.MarkLemmas.{position_or_length}
use Rattle.http_target.proofs.read.authority_length.Goals as goal

pub returns-clause-value : goal.returns-clause-value
returns-clause-value c =
    let found = position_from_yields_List ends_authority _ _ c.position.result c.position.ensures.ran (YieldsList-from_slice _ c.iter.ensures.rest) (λ x b q k. search (rules, tests)) in
    c.unwrap_or.ensures ∙ position_or_length ends_authority _ _ found
