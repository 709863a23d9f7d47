use Rattle.std.proofs.Common.{sym, ◌∙◌}
use Rattle.cgi_text.proofs.ParamLemmas.{no_host, host_there}
use Rattle.cgi_text.proofs.variables.push_server_name.Goals as goal

pub returns-then-is_empty : goal.returns-then-is_empty
returns-then-is_empty c = rw (no_host c.args.host.now c.args.ip (sym c.is_empty.ensures ∙ c.if-is_empty.true)) c.push_ip_pair.ensures

pub returns : goal.returns
returns c = rw (host_there c.args.host.now c.args.ip (sym c.is_empty.ensures ∙ c.if-is_empty.false)) c.push_pair.ensures
