use Rattle.cgi_text.proofs.variables.push_file.Goals as goal

pub returns : goal.returns
returns c = simp (c.bytes.ensures.value, c.in_ok-push_all.ensures.ok, c.in_ok-file.ensures) at c.push_pair.ensures
