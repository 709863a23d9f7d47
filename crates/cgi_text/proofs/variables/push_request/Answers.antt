use Rattle.std.proofs.Common.{append-nil, append_assoc}
use Rattle.cgi_text.specs.Params.{request_params}
use Rattle.cgi_text.proofs.variables.push_request.Goals as goal

pub returns : goal.returns
unfolding request_params
returns c =
    simp append-nil (simp (
      c.in_ok-push_pair.ensures,
      c.in_ok-push_pair-2.ensures,
      c.in_ok-push_pair-3.ensures,
      c.in_ok-push_pair-4.ensures,
      c.in_ok-push_pair-5.ensures,
      c.protocol.ensures,
      append_assoc,
    ) at c.push_pair-6.ensures)
