use Rattle.std.proofs.Common.{ap, sym, ◌∙◌}
use Rattle.regex.specs.Patterns.{Re, find}
use Rattle.regex.specs.Bytes.{regex_pattern, regex_source}
use Rattle.conditions.proofs.Finding.{enough_room, groups_are, groups_in_text, in_bytes, no_groups, places_inside, some_groups, whole_is}
use Rattle.conditions.proofs.kept.found_in.Goals as goal

pub groups_at-requires : goal.groups_at-requires
groups_at-requires c =
    let r = c.args.kept.now.pattern.now in
    let hay = c.args.hay.now in
    let found = c.in-Some.ensures.found in
    places_inside (regex_pattern r) hay found.0 c.captures_read.new.locations
    (enough_room r _ c.requires.is_read (c.in-Some.ensures.count ∙ c.requires.room))
    (ap (λ (re : Re). find re hay 0) (sym c.requires.searches) ∙ found.1) found.2.1

pub returns-in-Ok-clause-found : goal.returns-in-Ok-clause-found
returns-in-Ok-clause-found c =
    let r = c.args.kept.now.pattern.now in
    let hay = c.args.hay.now in
    let found = c.in-Some.ensures.found in
    let here = ap (λ (re : Re). find re hay 0) (sym c.requires.searches) ∙ found.1 in
    some_groups (regex_pattern r) (regex_source r) hay found.0 c.in-Ok.groups
    (groups_in_text r c.requires.is_read hay (in_bytes hay (λ i. (c.type_inv.hay i).fits))) here
    (groups_are r hay found.0 c.captures_read.new.locations c.as_bytes.result.now c.in-Ok.groups
    (enough_room r _ c.requires.is_read (c.in-Some.ensures.count ∙ c.requires.room)) here found.2.1 c.in-Ok.ensures
    (whole_is hay c.in-Some.whole.haystack.now (c.in-Some.whole.start, c.in-Some.whole.end) found.0 c.as_bytes.result.now
    c.as_bytes.ensures c.in-Some.ensures.within found.2.0))

pub returns-in-None-clause-found : goal.returns-in-None-clause-found
returns-in-None-clause-found c =
    let r = c.args.kept.now.pattern.now in
    let hay = c.args.hay.now in
    no_groups (regex_pattern r) (regex_source r) hay
    (groups_in_text r c.requires.is_read hay (in_bytes hay (λ i. (c.type_inv.hay i).fits)))
    (ap (λ (re : Re). find re hay 0) (sym c.requires.searches) ∙ c.in-None.ensures.found)
