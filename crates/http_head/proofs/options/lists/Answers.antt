use Rattle.std.proofs.Common.{rules, tests}
use Rattle.std.proofs.lemmas.Iterator.Search.{any_from_yields_List}
use Rattle.std.proofs.lemmas.Iterator.Splits.{YieldsList-from_slice_split}
use Rattle.lt_bytes.specs.Words.{same_word, trimmed}
use Rattle.http_head.specs.Options.{is_comma}
use Rattle.http_head.proofs.options.lists.Goals as goal

pub returns : goal.returns
returns c =
    any_from_yields_List (λ piece. same_word (trimmed piece) c.args.word.now) c.any.new.self _ c.any.result c.any.ensures.ran
    (YieldsList-from_slice_split _ is_comma c.args.value.now c.split.ensures.rest c.split.ensures.done c.split.ensures.closure (λ x r q k. search (rules, tests)))
    (λ x b q k. search (rules, tests))
