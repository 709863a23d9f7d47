use Rattle.cgi_text.specs.Request.{parts_of}
use Rattle.cgi_text.proofs.SizeLemmas.{params_size}
use Rattle.cgi_text.proofs.laws.params_are_bounded.Goals as goal

pub returns : goal.returns
returns c =
    params_size (parts_of c.args.request.now) (record {
      local_ip = c.ip_is_short.ensures;
      peer_ip = c.ip_is_short-2.ensures;
      local_port = c.port_is_short.ensures;
      peer_port = c.port_is_short-2.ensures;
      body_len = c.number_is_short.ensures;
    })
