use Rattle.std.proofs.Common.{ap, ◌∙◌}
use Rattle.std.specs.Prelude.{is_some}
use Rattle.regex.specs.Patterns.{Re, find}
use Rattle.conditions.proofs.Finding.{found_by_text, in_bytes}
use Rattle.conditions.proofs.kept.is_found.Goals as goal

pub returns-clause-found : goal.returns-clause-found
returns-clause-found c =
    let r = c.args.kept.now.pattern.now in
    let hay = c.args.hay.now in
    c.is_match.ensures.found ∙ ap (λ (re : Re). is_some (find re hay 0)) c.requires.searches
    ∙ found_by_text r c.requires.is_read hay (in_bytes hay (λ i. (c.type_inv.hay i).fits))
