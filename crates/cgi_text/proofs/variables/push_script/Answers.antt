use Rattle.std.proofs.Common.{append_assoc}
use Rattle.cgi_text.specs.Params.{script_params}
use Rattle.cgi_text.proofs.variables.push_script.Goals as goal

pub returns : goal.returns
unfolding script_params
returns c = simp (c.in_ok-push_pair.ensures, c.in_ok-push_pair-2.ensures, c.in_ok-push_file.ensures, append_assoc) at c.push_info.ensures
