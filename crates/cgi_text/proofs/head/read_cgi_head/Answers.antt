use Rattle.std.proofs.Common.{inr, rules}
use Rattle.cgi_text.proofs.HeadLemmas.{bad_head, values_fit, head_says}
use Rattle.cgi_text.proofs.head.read_cgi_head.Goals as goal

pub returns-in_default : goal.returns-in_default
returns-in_default c =
    inr (bad_head c.args.bytes.now c.split_at.result.0.now c.in-At.size c.in-At.ensures.value c.split_at.ensures.front
    (λ fields last rest r. let h = c.in_default.ensures.none fields last rest r in search (rules, h)))

pub read_fields-requires-clause-valid : goal.read_fields-requires-clause-valid
read_fields-requires-clause-valid c =
    values_fit c.split_at.result.0.now c.parsed.new.spans c.in-Some.field-0-0 c.in-Some.count c.in-Some.ensures.some

pub returns : goal.returns
returns c =
    head_says c.args.bytes.now c.split_at.result.0.now c.in-At.size c.parsed.new.spans c.in-Some.field-0-0 c.in-Some.count
    c.in-Ok.fields c.judged.result c.in-At.ensures.value c.split_at.ensures.front c.in-Some.ensures.some c.in-Some.ensures.within.count_fits
    (search rules) c.in-Ok.ensures.ok.1 c.judged.ensures
