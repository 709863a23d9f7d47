use Rattle.std.proofs.Common.{append_assoc}
use Rattle.cgi_text.specs.Params.{body_params}
use Rattle.cgi_text.proofs.variables.push_body.Goals as goal

pub returns : goal.returns
unfolding body_params
returns c = simp (c.in_ok-push_number_pair.ensures, c.in_ok-push_pair.ensures, append_assoc) at c.push_type.ensures
