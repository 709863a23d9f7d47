use Rattle.http_header.specs.HeaderMap.{get_all}
use Rattle.cgi_text.proofs.ParamLemmas.{type_there}
use Rattle.cgi_text.proofs.values.push_type.Goals as goal

pub returns : goal.returns
returns c =
    rw (type_there c.in-Some.field-0.now (get_all c.args.fields.now c.args.name.now) c.in-Some.ensures.value)
    (simp (c.bytes.ensures.value, c.in_ok-value.ensures) at c.push_pair.ensures)
