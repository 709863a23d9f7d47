use Rattle.std.proofs.Common.{decimal}
use Rattle.std.specs.Prelude.{slice_index}
use Rattle.cgi_text.proofs.SizeLemmas.{ip_size}
use Rattle.proxy_message.proofs.laws.ip_is_short.Goals as goal

pub returns : goal.returns
returns c =
    let ip = c.args.ip in
    ip_size (decimal (slice_index ip 0)) (decimal (slice_index ip 1)) (decimal (slice_index ip 2)) (decimal (slice_index ip 3)) c.octet_is_short.ensures
    c.octet_is_short-2.ensures c.octet_is_short-3.ensures c.octet_is_short-4.ensures
