use Rattle.std.proofs.Common.{◌≡◌, ◌++◌, flat_map}
use Rattle.http_header.specs.HeaderMap.{keys, get_all}
use Rattle.cgi_text.specs.Pairs.{pairs_bytes}
use Rattle.cgi_text.specs.Params.{field_param}
use Rattle.cgi_text.proofs.values.push_fields.Given as goal

abbrev pub invariant-loop-name : goal.invariant-loop-name
invariant-loop-name l =
    l.initial.text ++ flat_map (λ n. pairs_bytes (field_param (n, get_all l.fields n))) (keys l.fields)
    ≡ l.text ++ flat_map (λ n. pairs_bytes (field_param (n, get_all l.fields n))) l.name-iterator
