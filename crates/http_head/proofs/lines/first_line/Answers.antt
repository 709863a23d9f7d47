use Rattle.std.proofs.Common.{ap, ◌∙◌, eqb, take, rules, tests}
use Rattle.std.proofs.lemmas.Iterator.{YieldsList-from_slice}
use Rattle.std.proofs.lemmas.Iterator.Search.{position_from_yields_List}
use Rattle.http_target.proofs.MarkLemmas.{position_or_length}
use Rattle.http_head.proofs.lines.first_line.Goals as goal

pub returns : goal.returns
returns c =
    let bytes = c.args.bytes.now in
    let found = position_from_yields_List (λ b. eqb b 10) _ _ c.position.result c.position.ensures.ran (YieldsList-from_slice _ c.iter.ensures.rest) (λ x b q k. search (rules, tests)) in
    ap (λ n. take n bytes) (c.unwrap_or-length.ensures ∙ position_or_length (λ b. eqb b 10) bytes _ found)
