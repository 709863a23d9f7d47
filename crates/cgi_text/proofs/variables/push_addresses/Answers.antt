use Rattle.std.proofs.Common.{codes, decimal}
use Rattle.cgi_text.specs.Pairs.{pair_bytes}
use Rattle.cgi_text.specs.Request.{ip_text}
use Rattle.cgi_text.specs.Params.{address_params, server_name}
use Rattle.cgi_text.proofs.ParamLemmas.{on_ok, five}
use Rattle.cgi_text.proofs.variables.push_addresses.Goals as goal

pub returns : goal.returns
unfolding address_params
returns c =
    let r = c.args.request.now in
    on_ok c.push_port_pair-2.result
    (five c.args.text.now c.push_server_name.new.text c.push_ip_pair.new.text c.push_port_pair.new.text c.push_ip_pair-2.new.text c.push_port_pair-2.new.text
    (pair_bytes (codes "SERVER_NAME", server_name r.host.now r.local.ip)) (pair_bytes (codes "SERVER_ADDR", ip_text r.local.ip))
    (pair_bytes (codes "SERVER_PORT", decimal r.local.port)) (pair_bytes (codes "REMOTE_ADDR", ip_text r.peer.ip)) (pair_bytes (codes "REMOTE_PORT", decimal r.peer.port))
    c.in_ok-push_server_name.ensures c.in_ok-push_ip_pair.ensures c.in_ok-push_port_pair.ensures c.in_ok-push_ip_pair-2.ensures)
    c.push_port_pair-2.ensures
