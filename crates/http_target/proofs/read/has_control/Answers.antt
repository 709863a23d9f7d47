use Rattle.std.proofs.Common.{rules, tests}
use Rattle.std.proofs.lemmas.Iterator.Consumers.{YieldsList-from_first}
use Rattle.std.proofs.lemmas.Iterator.Search.{any_from_yields_List}
use Rattle.percent_encoding.specs.Iter.{decoded_bytes}
use Rattle.percent_encoding.specs.Percent as spec
use Rattle.http_target.specs.Target.{is_control}
use Rattle.http_target.proofs.read.has_control.Goals as goal

pub returns : goal.returns
returns c =
    any_from_yields_List is_control c.any.new.self _ c.any.result c.any.ensures.ran
    (YieldsList-from_first (λ x. x) decoded_bytes {s = c.percent_decode.result} (spec.percent_decode c.args.path.now) c.percent_decode.ensures.bytes) (λ x b q k. search (rules, tests))
