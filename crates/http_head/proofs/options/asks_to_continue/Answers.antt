use Rattle.std.proofs.Common.{List, ap, ◌∙◌, rules, tests}
use Rattle.std.specs.Prelude.{codes}
use Rattle.std.specs.List.{list_any}
use Rattle.std.proofs.lemmas.Iterator.Consumers.{YieldsList-from_first}
use Rattle.std.proofs.lemmas.Iterator.Search.{any_from_yields_List}
use Rattle.http_header.specs.FieldValue.{FieldValue}
use Rattle.lt_bytes.specs.Words.{same_word}
use Rattle.http_head.proofs.options.asks_to_continue.Goals as goal

pub returns : goal.returns
returns c =
    any_from_yields_List (λ (v : FieldValue). same_word v.bytes (codes "100-continue")) c.any.new.self _ c.any.result c.any.ensures.ran
    (YieldsList-from_first (λ x. x.now) (λ (values : List FieldValue). values) {s = c.iter.result} c.get_all.result c.iter.ensures) (λ x b q k. search (rules, tests))
    ∙ ap (list_any (λ (v : FieldValue). same_word v.bytes (codes "100-continue"))) c.get_all.ensures.value
