use Rattle.cgi_text.specs.Request.{parts_of}
use Rattle.cgi_text.proofs.ParamLemmas.{whole}
use Rattle.cgi_text.proofs.variables.params.Goals as goal

pub returns : goal.returns
returns c =
    whole c.in_ok-text.text c.push_request.new.text c.push_script.new.text c.push_addresses.new.text c.push_body.new.text c.push_fields.new.text
    (parts_of c.args.request.now) c.in_ok-text.ensures c.in_ok-push_request.ensures c.in_ok-push_script.ensures c.in_ok-push_addresses.ensures
    c.in_ok-push_body.ensures c.in_ok-push_fields.ensures
