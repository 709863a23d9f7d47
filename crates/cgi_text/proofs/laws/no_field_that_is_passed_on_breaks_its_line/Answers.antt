use Rattle.cgi_text.proofs.PassedLemmas.{head_passes}
use Rattle.cgi_text.proofs.laws.no_field_that_is_passed_on_breaks_its_line.Goals as goal

pub returns : goal.returns
returns c = head_passes
