use Rattle.std.proofs.Common.{◌∙◌}
use Rattle.fcgi_gateway.proofs.AskedLemmas.{lead_is}
use Rattle.fcgi_gateway.proofs.asking.lead.Goals as goal

pub returns : goal.returns
returns c =
    lead_is c.args.params.now c.args.body_len _ c.in_ok-text.text c.push_stream.new.text c.push_header.new.text (c.in_ok-text.ensures ∙ c.encode_begin.ensures) c.in_ok-push_stream.ensures c.in_ok-push_header.ensures c.min.ensures
